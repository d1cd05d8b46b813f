use Rattle.std.proofs.Common.{◌≡◌, ◌≤◌, ◌+◌, ◌-◌, sym, subst, arith}
use Rattle.std.proofs.lemmas.List.{get_or_read}
use Rattle.batch_core.specs.Core.{Core, no_job, job_at}
use Rattle.batch_core.specs.Events.{MayEnd}
use Rattle.batch_core.proofs.Written.{charge_is_there, refund_fits, written_end, written_end_none}
use Rattle.batch_core.proofs.admission.CoreState.end.Goals as goal

pub overflow_sub-index_mut : goal.overflow_sub-index_mut
overflow_sub-index_mut c =
    let s = c.self.inside in
    let core : Core = record { openings = s.openings.items; jobs = s.jobs.items; decided = s.decided; printed = s.printed } in
    let may : MayEnd core c.args.place c.args.charge = subst (λ (k : Core). MayEnd k c.args.place c.args.charge) (sym c.self.view_is) c.requires in
    let is : c.index.result.now ≡ job_at core c.args.place = get_or_read core.jobs c.args.place c.index.result.now may.0 c.index.ensures no_job in
    charge_is_there core s.lows.items s.highs.items c.args.place c.args.charge c.index.result.now c.in-Some.account c.index_mut-in-Some.result.now c.self.invariant may is c.in-Some.is c.index_mut-in-Some.ensures.value

pub overflow_add-index_mut : goal.overflow_add-index_mut
overflow_add-index_mut c =
    let s = c.self.inside in
    let core : Core = record { openings = s.openings.items; jobs = s.jobs.items; decided = s.decided; printed = s.printed } in
    let may : MayEnd core c.args.place c.args.charge = subst (λ (k : Core). MayEnd k c.args.place c.args.charge) (sym c.self.view_is) c.requires in
    let is : c.index.result.now ≡ job_at core c.args.place = get_or_read core.jobs c.args.place c.index.result.now may.0 c.index.ensures no_job in
    let below : c.index_mut-in-Some-2.result.now + (c.index.result.now.claim.reserve - c.args.charge) ≤ c.index_mut-in-Some.result.now =
    refund_fits core s.lows.items s.highs.items c.args.place c.args.charge c.index.result.now c.in-Some.account c.index_mut-in-Some-2.result.now c.index_mut-in-Some.result.now c.self.invariant may is c.in-Some.is c.index_mut-in-Some-2.ensures.value c.index_mut-in-Some.ensures.value in
    omega arith

pub invariant_of-self : goal.invariant_of-self
invariant_of-self c =
    let s = c.self.inside in
    let core : Core = record { openings = s.openings.items; jobs = s.jobs.items; decided = s.decided; printed = s.printed } in
    let may : MayEnd core c.args.place c.args.charge = subst (λ (k : Core). MayEnd k c.args.place c.args.charge) (sym c.self.view_is) c.requires in
    let is : c.index.result.now ≡ job_at core c.args.place = get_or_read core.jobs c.args.place c.index.result.now may.0 c.index.ensures no_job in
    written_end core s.lows.items s.highs.items c.args.place c.args.charge c.index.result.now c.in-Some.account c.index_mut-in-Some-2.result.now c.index_mut-in-Some.result.now c.self.invariant may is c.in-Some.is
    c.index_mut-in-Some-2.ensures.value c.index_mut-in-Some.ensures.value

pub invariant_of-self-in_default : goal.invariant_of-self-in_default
invariant_of-self-in_default c =
    let s = c.self.inside in
    let core : Core = record { openings = s.openings.items; jobs = s.jobs.items; decided = s.decided; printed = s.printed } in
    let may : MayEnd core c.args.place c.args.charge = subst (λ (k : Core). MayEnd k c.args.place c.args.charge) (sym c.self.view_is) c.requires in
    let is : c.index.result.now ≡ job_at core c.args.place = get_or_read core.jobs c.args.place c.index.result.now may.0 c.index.ensures no_job in
    written_end_none core s.lows.items s.highs.items c.args.place c.args.charge c.index.result.now c.self.invariant may is c.in_default.is

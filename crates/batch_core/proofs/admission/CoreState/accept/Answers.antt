use Rattle.std.proofs.Common.{◌≡◌, sym, subst}
use Rattle.std.proofs.lemmas.List.{get_or_read}
use Rattle.batch_core.specs.Core.{Core, no_job, job_at}
use Rattle.batch_core.specs.Events.{MayAccept}
use Rattle.batch_core.proofs.Written.{cards_are_there, written_accept}
use Rattle.batch_core.proofs.admission.CoreState.accept.Goals as goal

pub overflow_sub-index_mut-in-Some : goal.overflow_sub-index_mut-in-Some
overflow_sub-index_mut-in-Some c =
    let s = c.self.inside in
    let core : Core = record { openings = s.openings.items; jobs = s.jobs.items; decided = s.decided; printed = s.printed } in
    let may : MayAccept core = subst MayAccept (sym c.self.view_is) c.requires in
    let is : c.index.result.now ≡ job_at core core.decided = get_or_read core.jobs core.decided c.index.result.now may.0 c.index.ensures no_job in
    cards_are_there core s.lows.items s.highs.items c.index.result.now c.in-Some.account c.index_mut-in-Some-2.result.now c.self.invariant may is c.in-Some.is c.index_mut-in-Some-2.ensures.value

pub invariant_of-self : goal.invariant_of-self
invariant_of-self c =
    let s = c.self.inside in
    let core : Core = record { openings = s.openings.items; jobs = s.jobs.items; decided = s.decided; printed = s.printed } in
    let may : MayAccept core = subst MayAccept (sym c.self.view_is) c.requires in
    let is : c.index.result.now ≡ job_at core core.decided = get_or_read core.jobs core.decided c.index.result.now may.0 c.index.ensures no_job in
    written_accept core s.lows.items s.highs.items c.index.result.now c.in-Some.account c.index_mut-in-Some.result.now c.index_mut-in-Some-2.result.now c.self.invariant may is c.in-Some.is
    c.index_mut-in-Some.ensures.value c.index_mut-in-Some-2.ensures.value

use Rattle.std.proofs.Common.{◌≡◌, sym, subst}
use Rattle.std.proofs.lemmas.List.{get_or_read}
use Rattle.batch_core.specs.Core.{Core, no_job, job_at}
use Rattle.batch_core.specs.Events.{MayRefuse}
use Rattle.batch_core.proofs.Written.{written_refuse}
use Rattle.batch_core.proofs.admission.CoreState.refuse.Goals as goal

pub invariant_of-self : goal.invariant_of-self
invariant_of-self c =
    let s = c.self.inside in
    let core : Core = record { openings = s.openings.items; jobs = s.jobs.items; decided = s.decided; printed = s.printed } in
    let may : MayRefuse core = subst MayRefuse (sym c.self.view_is) c.requires in
    let is : c.index.result.now ≡ job_at core core.decided = get_or_read core.jobs core.decided c.index.result.now may.0 c.index.ensures no_job in
    written_refuse core s.lows.items s.highs.items c.index.result.now c.self.invariant may is

use Rattle.std.proofs.Common.{sym, subst}
use Rattle.batch_core.specs.Core.{Core}
use Rattle.batch_core.specs.Events.{MayArrive}
use Rattle.batch_core.proofs.Running.{runs_arrive}
use Rattle.batch_core.proofs.admission.CoreState.arrive.Goals as goal

pub invariant_of-self-2 : goal.invariant_of-self-2
invariant_of-self-2 c =
    let s = c.self.inside in
    let core : Core = record { openings = s.openings.items; jobs = s.jobs.items; decided = s.decided; printed = s.printed } in
    let may : MayArrive core c.args.claim = subst (λ (k : Core). MayArrive k c.args.claim) (sym c.self.view_is) c.requires in
    rw c.in_ok-push.ensures.items (runs_arrive core s.lows.items s.highs.items c.args.claim c.self.invariant may)

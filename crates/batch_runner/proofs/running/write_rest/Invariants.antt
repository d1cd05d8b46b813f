use Rattle.std.proofs.Common.{◌≡◌, None, length}
use Rattle.batch_runner.specs.Outcome.{outside}
use Rattle.batch_runner.specs.Progress.{GoesOn, progress}
use Rattle.batch_runner.proofs.Progressing.{still_to_write}
use Rattle.batch_runner.proofs.running.write_rest.Given as goal

abbrev pub invariant-loop-clerk : goal.invariant-loop-clerk
invariant-loop-clerk g l =
    (l.clerk.src.ghost_name ≡ l.initial.clerk.src.ghost_name) × (l.clerk.sink.ghost_name ≡ l.initial.clerk.sink.ghost_name) × GoesOn
    (progress l.initial.clerk.docket (outside (g.S.Source.left l.initial.clerk.src.now) (g.S.Source.faults l.initial.clerk.src.now) (g.K.Sink.written l.initial.clerk.sink.now) (g.K.Sink.faults l.initial.clerk.sink.now)))
    (progress l.clerk.docket (outside (g.S.Source.left l.clerk.src.now) (g.S.Source.faults l.clerk.src.now) (g.K.Sink.written l.clerk.sink.now) (g.K.Sink.faults l.clerk.sink.now)))
    × (l.clerk.docket.intake ≡ l.initial.clerk.docket.intake) × (l.clerk.docket.halt ≡ None → l.initial.clerk.docket.halt ≡ None)

abbrev pub decreases-loop-clerk : goal.decreases-loop-clerk
decreases-loop-clerk g l = still_to_write l.clerk.docket.halt (length l.clerk.docket.intake.jobs.items) l.clerk.docket.written

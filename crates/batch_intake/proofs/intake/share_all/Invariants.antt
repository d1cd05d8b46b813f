use Rattle.std.proofs.Common.{◌≡◌, ◌++◌, map}
use Rattle.std.specs.Vec.Iter.{into_iter_items}
use Rattle.batch_intake.proofs.intake.share_all.Given as goal

abbrev pub invariant-loop-job : goal.invariant-loop-job
invariant-loop-job l = map (λ j. j.value) l.all.items ++ into_iter_items l.job-iterator ≡ map (λ j. j.value) l.fn.all.items ++ l.fn.jobs.items

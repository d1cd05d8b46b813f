use Rattle.std.proofs.Common.{◌≡◌, ◌++◌, List, Option, ℕ, map}
use Rattle.deck_reader.specs.declared.batch.Account.{Account}
use Rattle.deck_reader.specs.Fed.{StandsFor, left_to_take}
use Rattle.deck_reader.specs.JobView.{JobView}
use Rattle.batch_intake.proofs.intake.take_ended.Given as goal

abbrev pub invariant-loop-job : goal.invariant-loop-job
invariant-loop-job l =
    ((given : Option (List Account)) (input : List ℕ) → StandsFor given l.initial.reader (map (λ j. j.value) l.initial.jobs.items) input → StandsFor given l.reader (map (λ j. j.value) l.jobs.items) input)
    × ((rest : List JobView) × (map (λ j. j.value) l.jobs.items ≡ map (λ j. j.value) l.initial.jobs.items ++ rest))

abbrev pub decreases-loop-job : goal.decreases-loop-job
decreases-loop-job l = left_to_take l.reader

use Rattle.std.proofs.Common.{◌≡◌, ◌+◌, ◌++◌, List, Option, ℕ, length}
use Rattle.deck_reader.specs.declared.batch.Account.{Account}
use Rattle.deck_reader.specs.JobView.{JobView}
use Rattle.deck_reader.specs.Fed.{StandsFor, HasRead}
use Rattle.deck_reader.proofs.reader.Reader.take.Given as goal

abbrev pub invariant-loop-front : goal.invariant-loop-front
invariant-loop-front l =
    (done : List ℕ) × (l.bytes ≡ done ++ l.rest) × (l.self.fed ≡ l.fn.self.fed + length l.bytes) × ((given : Option (List Account)) (taken : List JobView) (input : List ℕ) → StandsFor given l.fn.self taken input → HasRead given l.self taken (input ++ done))

abbrev pub decreases-loop-front : goal.decreases-loop-front
decreases-loop-front l = length l.rest

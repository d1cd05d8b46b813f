use Rattle.std.proofs.Common.{◌≡◌, ◌+◌, ◌++◌, length}
use Rattle.algolw_typing.specs.Types.{union}
use Rattle.typing_rules.specs.ClassSets.{Rising}
use Rattle.typing_rules.proofs.class_set.ClassSet.merged.Given as goal

-- what is merged and what is left of the two sets are all
abbrev pub invariant-loop-classes : goal.invariant-loop-classes
invariant-loop-classes l = record { same : l.all.items ++ union l.classes l.others ≡ union l.self.places.now.now l.other.places.now.now; rising : Rising l.classes; others_rising : Rising l.others }

abbrev pub decreases-loop-classes : goal.decreases-loop-classes
decreases-loop-classes l = length l.classes + length l.others

use Rattle.std.proofs.Common.{◌≡◌, ◌+◌, length}
use Rattle.typing_rules.specs.ClassSets.{Rising, is_within}
use Rattle.typing_rules.proofs.class_set.ClassSet.is_within.Given as goal

-- what is left of the set is within what is left of the other set where all of it is
abbrev pub invariant-loop-classes : goal.invariant-loop-classes
invariant-loop-classes l = record { same : is_within l.classes l.others ≡ is_within l.self.places.now.now l.other.places.now.now; rising : Rising l.classes; others_rising : Rising l.others }

abbrev pub decreases-loop-classes : goal.decreases-loop-classes
decreases-loop-classes l = length l.classes + length l.others

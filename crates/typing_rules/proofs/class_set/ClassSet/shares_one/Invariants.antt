use Rattle.std.proofs.Common.{◌≡◌, ◌+◌, length}
use Rattle.algolw_typing.specs.Types.{share_one}
use Rattle.typing_rules.specs.ClassSets.{Rising}
use Rattle.typing_rules.proofs.class_set.ClassSet.shares_one.Given as goal

-- what is left of the two sets shares a class where they do
abbrev pub invariant-loop-classes : goal.invariant-loop-classes
invariant-loop-classes l = record { same : share_one l.classes l.others ≡ share_one l.self.places.now.now l.other.places.now.now; rising : Rising l.classes; others_rising : Rising l.others }

abbrev pub decreases-loop-classes : goal.decreases-loop-classes
decreases-loop-classes l = length l.classes + length l.others

use Rattle.typing_rules.proofs.Sets.{none_rises}
use Rattle.typing_rules.proofs.class_set.ClassSet.none.Goals as goal

pub invariant_of-result : goal.invariant_of-result
invariant_of-result c = record { rising = none_rises }

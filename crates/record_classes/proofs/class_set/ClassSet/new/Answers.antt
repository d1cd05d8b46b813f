use Rattle.std.proofs.Common.{◌≡◌, List, subst}
use Rattle.std.proofs.lemmas.List.Elements.{same_from_all_zip}
use Rattle.std.specs.List.Sorted.{IsPermutation}
use Rattle.value_ops.specs.declared.values.ClassId.{ClassId}
use Rattle.record_classes.proofs.Membership.{once_rises, once_is_set}
use Rattle.record_classes.proofs.class_set.ClassSet.new.Goals as goal

pub invariant_of-result : goal.invariant_of-result
invariant_of-result c =
    let sorted = c.sort_unstable.new.self.items in
    let copied : c.in_ok-members.members.items ≡ c.args.classes.items =
    same_from_all_zip _ c.args.classes.items c.in_ok-members.members.items c.in_ok-members.ensures.cases.0 (λ x y is. is) in
    let moved = subst (λ (xs : List ClassId). IsPermutation xs sorted) copied c.sort_unstable.ensures.permutation in
    record {
      rising = once_rises sorted c.dedup.new.self.items c.sort_unstable.ensures.sorted c.dedup.ensures.filtered;
      same = once_is_set c.args.classes.items sorted c.dedup.new.self.items moved c.dedup.ensures.filtered;
    }

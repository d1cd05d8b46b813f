use Rattle.std.proofs.Common.{◌≡◌, sym, ap, ◌∙◌, subst}
use Rattle.std.specs.Borrow.{Bor}
use Rattle.std.specs.Prelude.{List, []}
use Rattle.value_ops.specs.declared.places.Place.{Place}
use Rattle.algolw_typing.specs.Types.{union}
use Rattle.typing_rules.specs.ClassSets.{Rising}
use Rattle.typing_rules.proofs.Unions.{once_rises, once_is_set}
use Rattle.typing_rules.proofs.class_set.ClassSet.new.Goals as goal

pub invariant_of-result : goal.invariant_of-result
invariant_of-result c =
    let held = ap (λ (b : Bor (List Place)). b.now) c.in_ok-places.ensures ∙ c.into_bump_slice-classes.ensures in
    record { rising = subst Rising (sym held) (once_rises c.sort_unstable.new.self.items c.dedup.new.self.items c.sort_unstable.ensures.sorted c.dedup.ensures.filtered) }

pub returns : goal.returns
returns c =
    let sorted = c.sort_unstable.new.self.items in
    let once = c.dedup.new.self.items in
    ap (λ (b : Bor (List Place)). b.now) c.in_ok-places.ensures
    ∙ c.into_bump_slice-classes.ensures
    ∙ once_is_set c.args.classes.items sorted once c.sort_unstable.ensures.permutation c.dedup.ensures.filtered (once_rises sorted once c.sort_unstable.ensures.sorted c.dedup.ensures.filtered)

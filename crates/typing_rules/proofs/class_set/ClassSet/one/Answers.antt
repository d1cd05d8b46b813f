use Rattle.std.proofs.Common.{◌≡◌, sym, subst, ap, ◌∙◌}
use Rattle.std.specs.Borrow.{Bor}
use Rattle.std.specs.Prelude.{List}
use Rattle.value_ops.specs.declared.places.Place.{Place}
use Rattle.typing_rules.specs.ClassSets.{Rising}
use Rattle.typing_rules.proofs.Sets.{one_rises}
use Rattle.typing_rules.proofs.class_set.ClassSet.one.Goals as goal

pub invariant_of-result : goal.invariant_of-result
invariant_of-result c =
    let held = ap (λ (b : Bor (List Place)). b.now) c.in_ok-places.ensures ∙ c.in_ok-classes.ensures in
    record { rising = subst Rising (sym held) (one_rises c.args.class) }

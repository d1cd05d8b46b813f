use Rattle.std.proofs.Common.{◌≡◌, sym, ap, ◌∙◌, subst}
use Rattle.std.specs.Borrow.{Bor}
use Rattle.std.specs.Prelude.{List}
use Rattle.value_ops.specs.declared.places.Place.{Place}
use Rattle.typing_rules.specs.ClassSets.{Rising}
use Rattle.typing_rules.proofs.Unions.{union_within, union_around, union_rises}
use Rattle.typing_rules.proofs.class_set.ClassSet.union.Goals as goal

pub returns-then-is_within : goal.returns-then-is_within
returns-then-is_within c = sym (union_within c.args.self.places.now.now c.args.other.places.now.now (sym c.is_within.ensures ∙ c.if-is_within.true) c.args.other.rising)

pub returns-then-is_within-2 : goal.returns-then-is_within-2
returns-then-is_within-2 c =
    sym (union_around c.args.self.places.now.now c.args.other.places.now.now (sym c.is_within-2.ensures ∙ c.if-is_within-2.true) c.args.self.rising c.args.other.rising)

pub invariant_of-result : goal.invariant_of-result
invariant_of-result c =
    let held = ap (λ (b : Bor (List Place)). b.now) c.in_ok-places.ensures ∙ c.in_ok-merged.ensures in
    record { rising = subst Rising (sym held) (union_rises c.args.self.places.now.now c.args.other.places.now.now c.args.other.rising) }

use Rattle.std.proofs.Common.{◌≡◌, ◌≤◌, List, IfOk, length, subst}
use Rattle.value_ops.specs.declared.places.Place.{Place}
use Rattle.typing_rules.proofs.NamedClasses.{all_found}
use Rattle.algolw_tree.specs.Tree.{Placed}
use Rattle.declared_names.proofs.declarations.class_set.Goals as goal

pub returns : goal.returns
returns c =
    let past = subst (λ (xs : List Placed). length xs ≤ c.loop-name.name-index) c.deref-name-items.ensures.value c.loop-name-test.false in
    subst (λ (found : List Place). IfOk c.new.result (λ set. set.places.now.now ≡ found)) (all_found c.args.path.now c.args.names.now.items c.loop-name.name-index c.loop-name.classes.items past c.loop-name.invariant) c.new.ensures

use Rattle.std.proofs.Common.{◌≡◌, subst, ap, refl, sym, ◌∙◌}
use Rattle.std.specs.Prelude.{IfOk}
use Rattle.algolw_tree.specs.declared.phrases.Phrase.{Phrase}
use Rattle.algolw_tree.specs.Tree.{At, Relation}
use Rattle.algolw_tree.specs.View.{tree}
use Rattle.algolw_tree.proofs.Rows.{relation_at}
use Rattle.token_reader.specs.Gives.{boxed_tree}
use Rattle.token_reader.proofs.make.relation.Goals as goal

pub returns : goal.returns
returns c =
    let whole = ap (At c.args.place c.into_inner-left.result.first) (relation_at _ c.in_ok-relation.relation _ refl (sym c.in_ok-relation.ensures.ok))
    ∙ ap (λ (l : Phrase). At c.args.place l.first (Relation c.args.op (tree l) (tree c.into_inner-right.result))) c.into_inner-left.ensures
    ∙ ap (λ (r : Phrase). At c.args.place c.args.left.value.first (Relation c.args.op (tree c.args.left.value) (tree r))) c.into_inner-right.ensures in
    subst (λ t. IfOk c.boxed_from.result (λ p. boxed_tree p ≡ t)) whole c.boxed_from.ensures

use Rattle.std.proofs.Common.{◌≡◌, subst, ap, refl, sym, ◌∙◌}
use Rattle.std.specs.Prelude.{IfOk}
use Rattle.algolw_tree.specs.declared.phrases.Phrase.{Phrase}
use Rattle.algolw_tree.specs.Tree.{At, Assign}
use Rattle.algolw_tree.specs.View.{tree}
use Rattle.algolw_tree.proofs.Rows.{assignment_at}
use Rattle.token_reader.specs.Gives.{boxed_tree}
use Rattle.token_reader.proofs.make.assignment.Goals as goal

pub returns : goal.returns
returns c =
    let whole = ap (At c.args.place c.into_inner-target.result.first) (assignment_at _ c.in_ok-assignment.assignment _ refl (sym c.in_ok-assignment.ensures.ok))
    ∙ ap (λ (l : Phrase). At c.args.place l.first (Assign (tree l) (tree c.into_inner-value.result))) c.into_inner-target.ensures
    ∙ ap (λ (r : Phrase). At c.args.place c.args.target.value.first (Assign (tree c.args.target.value) (tree r))) c.into_inner-value.ensures in
    subst (λ t. IfOk c.boxed_from.result (λ p. boxed_tree p ≡ t)) whole c.boxed_from.ensures

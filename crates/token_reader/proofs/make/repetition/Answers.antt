use Rattle.std.proofs.Common.{◌≡◌, subst, ap, refl, sym, ◌∙◌}
use Rattle.std.specs.Prelude.{IfOk}
use Rattle.algolw_tree.specs.declared.phrases.Phrase.{Phrase}
use Rattle.algolw_tree.specs.Tree.{WhileDo}
use Rattle.algolw_tree.specs.Grammar.{at}
use Rattle.algolw_tree.specs.View.{tree}
use Rattle.algolw_tree.proofs.Rows.{repetition_at}
use Rattle.token_reader.specs.Gives.{boxed_tree}
use Rattle.token_reader.proofs.make.repetition.Goals as goal

pub returns : goal.returns
returns c =
    let whole = repetition_at _ c.in_ok-repetition.repetition _ refl (sym c.in_ok-repetition.ensures.ok)
    ∙ ap (λ (l : Phrase). WhileDo (tree l) (tree c.into_inner-2.result)) c.into_inner.ensures
    ∙ ap (λ (r : Phrase). WhileDo (tree c.args.condition.value) (tree r)) c.into_inner-2.ensures in
    subst (λ t. IfOk c.boxed.result (λ p. boxed_tree p ≡ t)) (ap (at c.args.place) whole) c.boxed.ensures

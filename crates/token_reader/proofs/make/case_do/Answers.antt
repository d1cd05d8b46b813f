use Rattle.std.proofs.Common.{◌≡◌, subst, ap, refl, sym, map, ◌∙◌}
use Rattle.std.specs.Prelude.{IfOk}
use Rattle.algolw_tree.specs.Tree.{CaseDo}
use Rattle.algolw_tree.specs.Grammar.{at, phrases_of}
use Rattle.algolw_tree.specs.View.{tree, part_tree}
use Rattle.algolw_tree.proofs.Rows.{case_do_at}
use Rattle.token_reader.specs.Gives.{boxed_tree}
use Rattle.token_reader.proofs.make.case_do.Goals as goal

pub returns : goal.returns
returns c =
    let choice = case_do_at _ c.in_ok-choice.choice _ refl (sym c.in_ok-choice.ensures.ok) ∙ ap (λ s. CaseDo (tree s) (phrases_of (map part_tree c.args.parts.items))) c.into_inner-selector.ensures in
    subst (λ t. IfOk c.boxed.result (λ p. boxed_tree p ≡ t)) (ap (at c.args.place) choice) c.boxed.ensures

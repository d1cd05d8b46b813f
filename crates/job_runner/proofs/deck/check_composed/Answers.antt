use Rattle.std.proofs.Common.{[], ap, subst, ◌∙◌}
use Rattle.std.specs.Prelude.{IfOk}
use Rattle.algolw_tree.specs.Libraries.{with_item}
use Rattle.algolw_tree.specs.Tree.{Labelled, Phrase}
use Rattle.algolw_tree.specs.View.{tree}
use Rattle.procedure_library.specs.Views.{library_tree}
use Rattle.type_checker.specs.Says.{Says}
use Rattle.job_runner.proofs.deck.check_composed.Goals as goal

pub returns : goal.returns
returns c =
    let held = ap (λ x. with_item (library_tree c.args.library.now) (Labelled [] (tree x))) c.in_ok-new.ensures.ok in
    subst (λ (x : Phrase). IfOk c.check.result (Says x)) (c.compose.ensures ∙ held) c.check.ensures

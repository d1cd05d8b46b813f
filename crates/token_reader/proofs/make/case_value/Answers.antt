use Rattle.std.proofs.Common.{◌≡◌, subst, ap}
use Rattle.std.specs.Prelude.{IfOk}
use Rattle.algolw_tree.specs.Grammar.{at}
use Rattle.token_reader.specs.Gives.{boxed_tree}
use Rattle.token_reader.proofs.Made.{case_value_made}
use Rattle.token_reader.proofs.make.case_value.Goals as goal

pub returns : goal.returns
returns c = subst (λ t. IfOk c.boxed.result (λ p. boxed_tree p ≡ t)) (ap (at c.args.place) (case_value_made _ _ _ _ c.in_ok-choice.ensures.ok c.into_inner-selector.ensures)) c.boxed.ensures

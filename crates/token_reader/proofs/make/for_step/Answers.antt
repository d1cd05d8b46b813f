use Rattle.std.proofs.Common.{◌≡◌, subst, ap}
use Rattle.std.specs.Prelude.{IfOk}
use Rattle.algolw_tree.specs.Grammar.{at}
use Rattle.token_reader.specs.Gives.{boxed_tree}
use Rattle.token_reader.proofs.Made.{for_step_made}
use Rattle.token_reader.proofs.make.for_step.Goals as goal

pub returns : goal.returns
returns c = subst (λ t. IfOk c.boxed.result (λ p. boxed_tree p ≡ t)) (ap (at c.args.place) (for_step_made _ _ _ _ _ _ _ _ c.in_ok-steps.ensures.ok c.into_inner.ensures c.into_inner-2.ensures)) c.boxed.ensures

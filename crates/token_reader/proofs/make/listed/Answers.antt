use Rattle.std.proofs.Common.{◌≡◌, subst, ap}
use Rattle.std.specs.Prelude.{IfOk}
use Rattle.algolw_tree.specs.Grammar.{at}
use Rattle.token_reader.specs.Gives.{boxed_tree}
use Rattle.token_reader.proofs.Made.{listed_made}
use Rattle.token_reader.proofs.make.listed.Goals as goal

pub returns : goal.returns
returns c = subst (λ t. IfOk c.boxed.result (λ p. boxed_tree p ≡ t)) (ap (at c.args.place) (listed_made _ _ _ c.in_ok-listed.ensures.ok)) c.boxed.ensures

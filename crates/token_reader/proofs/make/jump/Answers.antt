use Rattle.std.proofs.Common.{◌≡◌, subst, ap}
use Rattle.std.specs.Prelude.{IfOk}
use Rattle.algolw_tree.specs.Tree.{At, Goto}
use Rattle.token_reader.specs.Gives.{boxed_tree}
use Rattle.token_reader.proofs.make.jump.Goals as goal

pub returns : goal.returns
returns c = subst (λ t. IfOk c.boxed_from.result (λ p. boxed_tree p ≡ t)) (ap (λ x. At c.args.label.1 c.args.first (Goto x)) c.in_ok-name.ensures.ok) c.boxed_from.ensures

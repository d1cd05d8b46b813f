use Rattle.std.proofs.Common.{◌≡◌, subst, ap, refl, sym}
use Rattle.std.specs.Prelude.{IfOk}
use Rattle.algolw_tree.specs.Grammar.{at}
use Rattle.algolw_tree.proofs.Rows.{block_at}
use Rattle.token_reader.specs.Gives.{boxed_tree}
use Rattle.token_reader.proofs.make.block.Goals as goal

pub returns : goal.returns
returns c = subst (λ t. IfOk c.boxed.result (λ p. boxed_tree p ≡ t)) (ap (at c.args.place) (block_at _ c.in_ok-block.block _ refl (sym c.in_ok-block.ensures.ok))) c.boxed.ensures

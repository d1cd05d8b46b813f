use Rattle.std.proofs.Common.{◌≡◌, subst, ap, refl, sym}
use Rattle.std.specs.Prelude.{IfOk}
use Rattle.algolw_tree.specs.Grammar.{at}
use Rattle.algolw_tree.proofs.Rows.{applied_at}
use Rattle.token_reader.specs.Gives.{boxed_tree}
use Rattle.token_reader.proofs.make.applied.Goals as goal

pub returns : goal.returns
returns c = subst (λ t. IfOk c.boxed.result (λ p. boxed_tree p ≡ t)) (ap (at c.args.place) (applied_at _ c.in_ok-applied.applied _ refl (sym c.in_ok-applied.ensures.ok))) c.boxed.ensures

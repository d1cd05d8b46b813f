use Rattle.std.proofs.Common.{◌≡◌, length, subst, ap, ◌∙◌, arith}
use Rattle.std.proofs.lemmas.Grind.{common_steps}
use Rattle.std.specs.Prelude.{IfOk}
use Rattle.algolw_tree.specs.declared.phrases.Phrase.{Phrase}
use Rattle.algolw_tree.specs.Grammar.{at}
use Rattle.algolw_tree.specs.View.{chain_tree}
use Rattle.token_reader.specs.Gives.{boxed_tree}
use Rattle.token_reader.proofs.Made.{chain_made}
use Rattle.token_reader.proofs.make.chained.Goals as goal

pub returns : goal.returns
returns c =
    let some : length c.args.links.items ≡ 0 → ⊥ = λ e. grind (arith, common_steps, c.is_empty.ensures, c.if-is_empty.false, c.args.links.ok.0) in
    let place = ap (λ (x : Phrase). at x.first (chain_tree c.in_ok-chain.chain.value)) c.deref.ensures in
    subst (λ t. IfOk c.boxed.result (λ p. boxed_tree p ≡ t)) (place ∙ chain_made _ _ c.args.first.value _ c.in_ok-chain.ensures.ok c.into_inner-first.ensures some) c.boxed.ensures

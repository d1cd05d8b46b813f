use Rattle.std.proofs.Common.{List, inr, subst}
use Rattle.algolw_parser.specs.Parsed.{Means}
use Rattle.algolw_parser.specs.declared.parsing.Parsed.TheVariants.{Bad, Tree}
use Rattle.algolw_tree.specs.declared.tokens.Token.{Token}
use Rattle.job_runner.proofs.reading.read_tokens.Goals as goal

pub returns-in-Tree : goal.returns-in-Tree
returns-in-Tree c = λ deck are.
    let of_slice : Means c.as_slice.result.now (Tree c.in-Tree.phrase) = subst (Means c.as_slice.result.now) c.in-Tree.is c.in_ok-phrase.ensures.means in
    let means : Means c.args.tokens.items (Tree c.in-Tree.phrase) = subst (λ (tokens : List Token). Means tokens (Tree c.in-Tree.phrase)) c.as_slice.ensures.value of_slice in
    (c.args.tokens.items, are, means)

pub returns : goal.returns
returns c = λ deck are.
    let of_slice : Means c.as_slice.result.now (Bad c.in-Bad.fault) = subst (Means c.as_slice.result.now) c.in-Bad.is c.in_ok-phrase.ensures.means in
    let means : Means c.args.tokens.items (Bad c.in-Bad.fault) = subst (λ (tokens : List Token). Means tokens (Bad c.in-Bad.fault)) c.as_slice.ensures.value of_slice in
    inr (c.args.tokens.items, means.0, are, means.1, means.2)

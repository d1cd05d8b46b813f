use Rattle.std.proofs.Common.{sym, ◌∙◌}
use Rattle.algolw_tree.specs.declared.tokens.Symbol.TheVariants.{Comma}
use Rattle.algolw_grammar.specs.Kinds.{the_symbol}
use Rattle.token_reader.proofs.Turns.{turn_kept_plain}
use Rattle.token_reader.proofs.Shrink.{shrinks_star}
use Rattle.token_reader.proofs.parser.Parser.later_stars.Goals as goal

pub turns-preserved : goal.turns-preserved
turns-preserved c =
    turn_kept_plain (the_symbol Comma) _ shrinks_star c.turns.stars.items _ c.in_ok-one.one c.turns.self.rest.now c.later_star.new.self.rest.now _ c.in_ok-push-2.ensures.items (sym c.at_symbol.ensures ∙ c.turns-test.true) c.in_ok-one.ensures c.turns.invariant

use Rattle.std.proofs.Common.{sym, ◌∙◌}
use Rattle.algolw_tree.specs.declared.tokens.Symbol.TheVariants.{Semicolon}
use Rattle.algolw_grammar.specs.Kinds.{the_symbol}
use Rattle.token_reader.specs.Gives.{group_tree}
use Rattle.token_reader.proofs.Turns.{turn_kept}
use Rattle.token_reader.proofs.Shrink.{shrinks_group}
use Rattle.token_reader.proofs.parser.Parser.later_groups.Goals as goal

pub turns-smaller : goal.turns-smaller
turns-smaller c = shrinks_group.less c.turns.self.rest.now _ _ c.later_group.new.self.rest.now c.in_ok-one.ensures

pub turns-preserved : goal.turns-preserved
turns-preserved c =
    turn_kept (the_symbol Semicolon) _ group_tree shrinks_group c.turns.groups.items _ c.in_ok-one.one c.turns.self.rest.now c.later_group.new.self.rest.now _ c.in_ok-push-2.ensures.items (sym c.at_symbol.ensures ∙ c.turns-test.true) c.in_ok-one.ensures c.turns.invariant

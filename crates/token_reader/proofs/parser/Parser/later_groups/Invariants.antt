use Rattle.std.proofs.Common.{◌≡◌, length, map}
use Rattle.algolw_tree.specs.declared.tokens.Symbol.TheVariants.{Semicolon}
use Rattle.algolw_grammar.specs.Readers.{gathered}
use Rattle.algolw_grammar.specs.Reading.{read_later, read_group}
use Rattle.token_reader.specs.Gives.{group_tree}
use Rattle.token_reader.proofs.parser.Parser.later_groups.Given as goal

abbrev pub invariant-turns : goal.invariant-turns
invariant-turns l = gathered (map group_tree l.groups.items) (read_later Semicolon read_group l.self.rest.now) ≡ gathered (map group_tree l.initial.groups.items) (read_later Semicolon read_group l.initial.self.rest.now)

abbrev pub decreases-turns : goal.decreases-turns
decreases-turns l = length l.self.rest.now

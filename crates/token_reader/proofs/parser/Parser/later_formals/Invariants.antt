use Rattle.std.proofs.Common.{◌≡◌, length, map}
use Rattle.algolw_tree.specs.declared.tokens.Symbol.TheVariants.{Semicolon}
use Rattle.algolw_tree.specs.View.{formal_tree}
use Rattle.algolw_grammar.specs.Readers.{gathered}
use Rattle.algolw_grammar.specs.Reading.{read_later, read_formal}
use Rattle.token_reader.proofs.parser.Parser.later_formals.Given as goal

abbrev pub invariant-turns : goal.invariant-turns
invariant-turns l = gathered (map formal_tree l.formals.items) (read_later Semicolon read_formal l.self.rest.now) ≡ gathered (map formal_tree l.initial.formals.items) (read_later Semicolon read_formal l.initial.self.rest.now)

abbrev pub decreases-turns : goal.decreases-turns
decreases-turns l = length l.self.rest.now

use Rattle.std.proofs.Common.{◌≡◌, length}
use Rattle.algolw_tree.specs.declared.tokens.Symbol.TheVariants.{Comma, Star}
use Rattle.algolw_grammar.specs.Readers.{gathered}
use Rattle.algolw_grammar.specs.Reading.{read_later, read_symbol}
use Rattle.token_reader.proofs.parser.Parser.later_stars.Given as goal

abbrev pub invariant-turns : goal.invariant-turns
invariant-turns l = gathered l.stars.items (read_later Comma (read_symbol Star) l.self.rest.now) ≡ gathered l.initial.stars.items (read_later Comma (read_symbol Star) l.initial.self.rest.now)

abbrev pub decreases-turns : goal.decreases-turns
decreases-turns l = length l.self.rest.now

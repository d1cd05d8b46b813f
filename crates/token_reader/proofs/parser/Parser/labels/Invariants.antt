use Rattle.std.proofs.Common.{◌≡◌, length}
use Rattle.algolw_tree.specs.Tree.{Phrase}
use Rattle.algolw_grammar.specs.Readers.{Reader, read_labelled}
use Rattle.algolw_grammar.specs.Taken.{label_taken}
use Rattle.token_reader.proofs.Labels.{put_before}
use Rattle.token_reader.proofs.parser.Parser.labels.Given as goal

abbrev pub invariant-turns : goal.invariant-turns
invariant-turns l = (p : Reader Phrase) → read_labelled label_taken p l.initial.self.rest.now ≡ put_before l.labels.items (read_labelled label_taken p l.self.rest.now)

abbrev pub decreases-turns : goal.decreases-turns
decreases-turns l = length l.self.rest.now

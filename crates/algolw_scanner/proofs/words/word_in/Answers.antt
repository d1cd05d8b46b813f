use Rattle.std.proofs.Common.{◌∙◌}
use Rattle.algolw_scanner.proofs.Table.{found_word}
use Rattle.algolw_scanner.proofs.words.word_in.Goals as goal

pub returns : goal.returns
returns c = c.entry_word.ensures ∙ found_word c.args.table.now c.args.name.now

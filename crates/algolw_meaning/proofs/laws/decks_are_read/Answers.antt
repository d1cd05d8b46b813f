use Rattle.algolw_meaning.proofs.Found.{decks_are_read}
use Rattle.algolw_meaning.proofs.laws.decks_are_read.Goals as goal

pub returns : goal.returns
returns c = decks_are_read

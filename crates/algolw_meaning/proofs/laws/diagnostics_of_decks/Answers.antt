use Rattle.algolw_meaning.proofs.Found.{diagnostics_of_decks}
use Rattle.algolw_meaning.proofs.laws.diagnostics_of_decks.Goals as goal

pub returns : goal.returns
returns c = diagnostics_of_decks

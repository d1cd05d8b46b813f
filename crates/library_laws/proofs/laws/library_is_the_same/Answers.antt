use Rattle.library_laws.proofs.CardPlaces.{same_for_decks}
use Rattle.library_laws.proofs.laws.library_is_the_same.Goals as goal

pub returns : goal.returns
returns c = same_for_decks

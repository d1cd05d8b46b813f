use Rattle.library_laws.proofs.CardPlaces.{trees_stand}
use Rattle.library_laws.proofs.laws.trees_of_decks_stand.Goals as goal

pub returns : goal.returns
returns c = trees_stand

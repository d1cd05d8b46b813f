use Rattle.deck_reader.proofs.Staying.{libraries_stay}
use Rattle.deck_reader.proofs.laws.libraries_stay.Goals as goal

pub returns : goal.returns
returns c = libraries_stay

use Rattle.deck_reader.proofs.Staying.{accounts_stay}
use Rattle.deck_reader.proofs.laws.accounts_stay.Goals as goal

pub returns : goal.returns
returns c = accounts_stay

use Rattle.deck_reader.proofs.Cuts.{joined}
use Rattle.deck_reader.proofs.laws.pieces_joined.Goals as goal

pub returns : goal.returns
returns c = joined

use Rattle.deck_reader.proofs.LibraryCards.{library_card_by_parts}
use Rattle.deck_reader.proofs.laws.library_card_by_parts.Goals as goal

pub returns : goal.returns
returns c = library_card_by_parts

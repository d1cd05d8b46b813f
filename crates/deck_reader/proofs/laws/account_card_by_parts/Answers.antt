use Rattle.deck_reader.proofs.AccountCards.{account_card_by_parts}
use Rattle.deck_reader.proofs.laws.account_card_by_parts.Goals as goal

pub returns : goal.returns
returns c = account_card_by_parts

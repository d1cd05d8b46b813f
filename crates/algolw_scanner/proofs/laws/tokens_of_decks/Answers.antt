use Rattle.algolw_scanner.proofs.Keeps.{tokens_keep}
use Rattle.algolw_scanner.proofs.laws.tokens_of_decks.Goals as goal

pub returns : goal.returns
returns c = tokens_keep

use Rattle.algolw_scanner.proofs.Pieces.{scanned_is}
use Rattle.algolw_scanner.proofs.laws.decks_are_scanned.Goals as goal

pub returns : goal.returns
returns c = scanned_is

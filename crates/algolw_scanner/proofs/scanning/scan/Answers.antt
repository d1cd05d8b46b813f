use Rattle.algolw_scanner.proofs.One.{if_only, said}
use Rattle.algolw_scanner.proofs.Allowed.{allowed_clean}
use Rattle.algolw_scanner.proofs.Keeps.{if_placed}
use Rattle.algolw_scanner.proofs.Pieces.{if_read}
use Rattle.algolw_scanner.proofs.scanning.scan.Goals as goal

pub returns-clause-only : goal.returns-clause-only
returns-clause-only c = if_only c.args.deck.now c.deck_tokens.result (said c.args.deck.now c.deck_tokens.result c.deck_tokens.ensures)

pub deck_tokens-requires-clause-clean : goal.deck_tokens-requires-clause-clean
deck_tokens-requires-clause-clean c = allowed_clean c.args.deck.now c.requires.foul

pub returns-clause-said : goal.returns-clause-said
returns-clause-said c = said c.args.deck.now c.deck_tokens.result c.deck_tokens.ensures

pub returns-clause-placed : goal.returns-clause-placed
returns-clause-placed c = if_placed c.args.deck.now c.deck_tokens.result c.requires (said c.args.deck.now c.deck_tokens.result c.deck_tokens.ensures)

pub returns-clause-read : goal.returns-clause-read
returns-clause-read c = if_read c.args.deck.now c.deck_tokens.result (said c.args.deck.now c.deck_tokens.result c.deck_tokens.ensures)

use Rattle.algolw_scanner.proofs.Chain.{empty_says}
use Rattle.algolw_scanner.proofs.scanning.deck_tokens.Goals as goal

pub returns-in_ok-vec-in-empty : goal.returns-in_ok-vec-in-empty
returns-in_ok-vec-in-empty c = empty_says c.args.deck.now c.in_ok-new-in-empty.field-0 c.in_ok-vec-in-empty.field-0.items c.in-empty.len_below c.in_ok-new-in-empty.ensures c.in_ok-vec-in-empty.ensures.items

use Rattle.std.proofs.Common.{length}
use Rattle.algolw_scanner.specs.Cursors.{text_at}
use Rattle.algolw_scanner.proofs.Chain.{Kept}
use Rattle.algolw_scanner.proofs.scanning.tokens_from.Given as goal

abbrev pub invariant-pieces : goal.invariant-pieces
invariant-pieces l = Kept l.fn.start l.tokens.items l.after_end l.cursor

abbrev pub decreases-pieces : goal.decreases-pieces
decreases-pieces l = length (text_at l.cursor)

use Rattle.std.proofs.Common.{◌≡◌, ℕ, List, true, length}
use Rattle.algolw_scanner.specs.Cursors.{Behind, no_semicolon, text_at}
use Rattle.algolw_scanner.proofs.cursor.Cursor.after_semicolon.Given as goal

abbrev pub invariant-loop-cursor : goal.invariant-loop-cursor
invariant-loop-cursor l = (u : List ℕ) × (no_semicolon u ≡ true) × Behind l.fn.self u l.cursor

abbrev pub decreases-loop-cursor : goal.decreases-loop-cursor
decreases-loop-cursor l = length (text_at l.cursor)

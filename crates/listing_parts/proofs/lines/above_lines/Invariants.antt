use Rattle.std.proofs.Common.{ℕ, List, ◌≤◌, length}
use Rattle.listing_parts.specs.Lines.{IsUpward}
use Rattle.listing_parts.proofs.Loops.{StillLeft}
use Rattle.listing_parts.proofs.lines.above_lines.Given as goal

abbrev pub invariant-loop-left : goal.invariant-loop-left
invariant-loop-left l =
    (length l.above ≤ length l.fn.text)
    × ((lines : List (List ℕ)) → IsUpward l.fn.text lines → StillLeft l.fn.count lines l.left l.above)

abbrev pub decreases-loop-left : goal.decreases-loop-left
decreases-loop-left l = l.left

use Rattle.std.proofs.Common.{ℕ, List, ◌≤◌, length}
use Rattle.listing_parts.specs.Kinds.{is_of}
use Rattle.listing_parts.specs.Lines.{IsUpward}
use Rattle.listing_parts.proofs.Loops.{StillAbove}
use Rattle.listing_parts.proofs.lines.above_all.Given as goal

abbrev pub invariant-loop-rest : goal.invariant-loop-rest
invariant-loop-rest l =
    (length l.above ≤ length l.fn.text)
    × ((lines : List (List ℕ)) → IsUpward l.fn.text lines → StillAbove (is_of l.fn.kind) lines l.above)

abbrev pub decreases-loop-rest : goal.decreases-loop-rest
decreases-loop-rest l = length l.above

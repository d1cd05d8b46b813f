use Rattle.std.proofs.Common.{◌≡◌, ◌++◌, ◌+◌, ◌-◌, List, ℕ, Some, length}
use Rattle.night_shares.specs.Reading.{IsInLine, held, to_come}
use Rattle.night_shares.proofs.lines.Lines.next.Given as goal

-- the line so far and the bytes to come are those that were to come, and the line has not ended
abbrev pub invariant-loop-line : goal.invariant-loop-line
invariant-loop-line g l =
    IsInLine l.line.items × (g.S.Source.faults l.src ≡ g.S.Source.faults l.fn.src)
    × ((bytes : List ℕ) → to_come l.fn.self (g.S.Source.left l.fn.src) ≡ Some bytes
    → (now : List ℕ) × (to_come l.self (g.S.Source.left l.src) ≡ Some now) × (bytes ≡ l.line.items ++ now))

abbrev pub decreases-loop-line : goal.decreases-loop-line
decreases-loop-line g l = 4259840 - (length l.line.items + length (held l.self))

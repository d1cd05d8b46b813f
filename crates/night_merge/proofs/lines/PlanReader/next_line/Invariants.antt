use Rattle.std.proofs.Common.{◌≡◌, ℕ, ◌++◌, ◌∷◌, ◌-◌, List, Some, true, length}
use Rattle.std.specs.Io.KnownBytes.{prepend_known}
use Rattle.listing_parts.specs.Lines.{is_line}
use Rattle.night_merge.proofs.Feeds.{Pending}
use Rattle.night_merge.proofs.lines.PlanReader.next_line.Given as goal

abbrev pub invariant-loop-self : goal.invariant-loop-self
invariant-loop-self g l =
    (g.P.Source.faults l.src ≡ g.P.Source.faults l.initial.src)
    × ((line rest : List ℕ) → is_line line ≡ true → prepend_known l.initial.self (g.P.Source.left l.initial.src) ≡ Some (line ++ 10 ∷ rest)
    → Pending line rest l.line.items (prepend_known l.self (g.P.Source.left l.src)))

abbrev pub decreases-loop-self : goal.decreases-loop-self
decreases-loop-self g l = 257 - length l.line.items

use Rattle.std.proofs.Common.{◌≡◌, ℕ, ◌++◌, ◌-◌, List, Some, true, length}
use Rattle.std.specs.Io.KnownBytes.{prepend_known}
use Rattle.night_merge.specs.declared.plan.Entry.{Entry}
use Rattle.night_merge.specs.declared.plan.Line.{Line}
use Rattle.night_merge.specs.Plan.{AreListed, IsSaid, entries_text, fed}
use Rattle.night_merge.specs.Reading.{ends_entries}
use Rattle.night_merge.proofs.Successions.{StillListed}
use Rattle.night_merge.proofs.lines.PlanReader.entries.Given as goal

abbrev pub invariant-lines : goal.invariant-lines
invariant-lines g l =
    (g.P.Source.faults l.src ≡ g.P.Source.faults l.initial.src)
    × ((entries : List Entry) (line : Line) (rest : List ℕ) → AreListed entries → IsSaid line → ends_entries line ≡ true → prepend_known l.initial.self (g.P.Source.left l.initial.src) ≡ Some (entries_text entries ++ (fed line ++ rest))
    → StillListed entries line rest l.entries.items (prepend_known l.self (g.P.Source.left l.src)))

abbrev pub decreases-lines : goal.decreases-lines
decreases-lines g l = 2001 - length l.entries.items

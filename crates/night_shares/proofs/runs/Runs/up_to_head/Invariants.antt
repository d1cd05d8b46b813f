use Rattle.std.proofs.Common.{◌≡◌, ◌++◌, ◌-◌, false, List, ℕ, Some, None, length}
use Rattle.std.specs.List.{AllByRecursion, list_any}
use Rattle.deck_reader.specs.Cards.{pieces}
use Rattle.night_shares.specs.Lines.{begins_job, text_of_lines}
use Rattle.night_shares.specs.Reading.{IsInLine}
use Rattle.night_shares.specs.Running.{bytes_to_come, head_of}
use Rattle.night_shares.proofs.runs.Runs.up_to_head.Given as goal

-- some lines are taken, of which none begins a job, and the others are to come
abbrev pub invariant-loop-line : goal.invariant-loop-line
invariant-loop-line g l =
    (head_of l.self ≡ None) × (g.S.Source.faults l.src ≡ g.S.Source.faults l.fn.src)
    × ((bytes : List ℕ) → bytes_to_come l.fn.self (g.S.Source.left l.fn.src) ≡ Some bytes
    → (done : List (List ℕ)) × (rest : List ℕ) × (bytes_to_come l.self (g.S.Source.left l.src) ≡ Some rest) × (pieces bytes ≡ done ++ pieces rest)
    × (list_any begins_job done ≡ false) × AllByRecursion IsInLine done × (l.text.items ≡ l.fn.text.items ++ text_of_lines done))

abbrev pub decreases-loop-line : goal.decreases-loop-line
decreases-loop-line g l = 4194305 - length l.text.items

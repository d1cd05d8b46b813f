use Rattle.std.proofs.Common.{◌≡◌, ◌≤◌, ◌+◌, ◌*◌, [], List, ℕ}
use Rattle.deck_reader.specs.declared.batch.Account.{Account}
use Rattle.deck_reader.specs.Batch.{Front}
use Rattle.night_shares.specs.Cutting.{IsCutter, NoneUnread}
use Rattle.night_shares.specs.Running.{AtHead, bytes_to_come, head_of}
use Rattle.night_shares.proofs.NightRuns.{HasCut, HasTaken}
use Rattle.night_shares.proofs.cutting.cut_runs.Given as goal

-- so many runs are cut, and the others are to come
abbrev pub invariant-loop : goal.invariant-loop
invariant-loop g l =
    ((l.cutter.chains ≡ l.fn.cutter.chains) × (l.cutter.libraries ≡ l.fn.cutter.libraries) × (l.cutter.window.number ≤ l.counter + 1) × (l.cutter.stray ≤ 4294967295 * (l.counter + 1)))
    × (g.S.Source.faults l.src ≡ g.S.Source.faults l.fn.src) × (g.D.Shelf.faults l.shelf ≡ g.D.Shelf.faults l.fn.shelf)
    × ((lines : List (List ℕ)) → AtHead (head_of l.fn.runs) (bytes_to_come l.fn.runs (g.S.Source.left l.fn.src)) lines
    → HasTaken l.fn.cutter.libraries.items lines l.counter (head_of l.runs) (bytes_to_come l.runs (g.S.Source.left l.src)))
    × ((accounts : List Account) (libraries : List ℕ) (stray : ℕ) (front : Front) (lines : List (List ℕ)) → IsCutter l.fn.cutter.chains accounts libraries [] stray l.fn.cutter → NoneUnread accounts → front.accounts ≡ accounts
    → AtHead (head_of l.fn.runs) (bytes_to_come l.fn.runs (g.S.Source.left l.fn.src)) lines
    → HasCut l.fn.cutter.chains accounts libraries stray front lines (g.D.Shelf.filed l.fn.shelf) (head_of l.runs) (bytes_to_come l.runs (g.S.Source.left l.src)) l.cutter (g.D.Shelf.filed l.shelf))

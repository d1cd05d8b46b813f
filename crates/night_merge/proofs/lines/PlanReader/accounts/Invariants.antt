use Rattle.std.proofs.Common.{◌≡◌, ℕ, ◌++◌, ◌-◌, List, Some, true, length}
use Rattle.std.specs.Io.KnownBytes.{prepend_known}
use Rattle.deck_reader.specs.declared.batch.Account.{Account}
use Rattle.night_merge.specs.declared.plan.Line.{Line}
use Rattle.night_merge.specs.Plan.{AreOpened, IsSaid, accounts_text, fed}
use Rattle.night_merge.specs.Reading.{ends_accounts}
use Rattle.night_merge.proofs.Successions.{StillOpened}
use Rattle.night_merge.proofs.lines.PlanReader.accounts.Given as goal

abbrev pub invariant-lines : goal.invariant-lines
invariant-lines g l =
    (g.P.Source.faults l.src ≡ g.P.Source.faults l.initial.src)
    × ((accounts : List Account) (line : Line) (rest : List ℕ) → AreOpened accounts → IsSaid line → ends_accounts line ≡ true → prepend_known l.initial.self (g.P.Source.left l.initial.src) ≡ Some (accounts_text accounts ++ (fed line ++ rest))
    → StillOpened accounts line rest l.accounts.items (prepend_known l.self (g.P.Source.left l.src)))

abbrev pub decreases-lines : goal.decreases-lines
decreases-lines g l = 4294967295 - length l.accounts.items

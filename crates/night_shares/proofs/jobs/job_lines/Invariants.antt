use Rattle.std.proofs.Common.{◌≡◌, ◌++◌, false, List, ℕ, length}
use Rattle.std.specs.List.{AllByRecursion, list_any}
use Rattle.night_shares.specs.Lines.{ends_job, text_of_lines}
use Rattle.night_shares.specs.Reading.{IsInLine}
use Rattle.night_shares.proofs.jobs.job_lines.Given as goal

abbrev pub invariant-loop-line : goal.invariant-loop-line
invariant-loop-line l =
    (front : List ℕ) × (l.run ≡ front ++ l.rest) × ((lines : List (List ℕ)) → AllByRecursion IsInLine lines → l.run ≡ text_of_lines lines
    → (done : List (List ℕ)) × (others : List (List ℕ)) × (lines ≡ done ++ others) × AllByRecursion IsInLine others × (front ≡ text_of_lines done) × (l.rest ≡ text_of_lines others) × (list_any ends_job done ≡ false))

abbrev pub decreases-loop-line : goal.decreases-loop-line
decreases-loop-line l = length l.rest

-- What is filed for a night: the plan, and the parts of its windows.
use Rattle.std.specs.Prelude.{ℕ, ◌≡◌, ◌+◌, List, [], ◌∷◌, ◌++◌, Option, None, Some, map, flat_map, ⊤}
use Rattle.std.specs.List.{range_with_len}
use Rattle.deck_reader.specs.declared.batch.Account.{Account}
use Rattle.night_shares.specs.declared.shelf.NightFile.{NightFile}
use Rattle.night_shares.specs.declared.shelf.NightFile.TheVariants.{Plan, Cards}
use Rattle.night_shares.specs.Jobs.{NightJob, jobs_of_lines, libraries_text, night_front, strays_of_lines}
use Rattle.night_shares.specs.Plan.{last_row, window_rows}
use Rattle.night_shares.specs.Windows.{all_windows, jobs_of_chain, part_text, room_behind, windows_of}

-- a text that is filed: the plan's next lines, or a file of its own
pub record Filing : Type 0 where
  pub file : NightFile
  pub text : List ℕ

-- what is known to be filed grows by these
abbrev pub Files : Option (List Filing) → Option (List Filing) → List Filing → Type 0
Files None new more = ⊤
Files (Some before) None more = ⊥
Files (Some before) (Some now) more = now ≡ before ++ more

-- a text, unless it is empty
abbrev pub filed_unless_empty : NightFile → List ℕ → List Filing
filed_unless_empty file [] = []
filed_unless_empty file (b ∷ text) = record { file = file; text = b ∷ text } ∷ []

-- the part that a window has of a chain, which is numbered from 0
abbrev pub part_filing : ℕ → List ℕ → ℕ → List NightJob → ℕ → List Filing
part_filing chains libraries number window chain =
    filed_unless_empty (Cards (record { chain = chain + 1; window = number })) (part_text libraries (jobs_of_chain chains chain window))

-- a window: its parts, in the order of the chains, and its lines of the plan
abbrev pub window_filings : ℕ → List ℕ → ℕ → List NightJob → List Filing
window_filings chains libraries number window =
    flat_map (part_filing chains libraries number window) (range_with_len 0 chains)
    ++ record { file = Plan; text = window_rows chains number (map (λ j. j.job) window) } ∷ []

-- windows, numbered from here
abbrev pub windows_filings : ℕ → List ℕ → ℕ → List (List NightJob) → List Filing
windows_filings chains libraries number [] = []
windows_filings chains libraries number (window ∷ windows) = window_filings chains libraries number window ++ windows_filings chains libraries (number + 1) windows

-- the libraries' cards of a night of these lines
abbrev pub night_libraries : List Account → List (List ℕ) → List ℕ
night_libraries accounts lines = libraries_text (night_front accounts lines).shelf

-- the windows of a night of these lines
abbrev pub night_windows : List Account → List (List ℕ) → List (List NightJob)
night_windows accounts lines = all_windows (windows_of (room_behind (night_libraries accounts lines)) (jobs_of_lines accounts lines))

-- what is filed for the cards of a night of these lines
abbrev pub night_filings : ℕ → List Account → List (List ℕ) → List Filing
night_filings chains accounts lines =
    windows_filings chains (night_libraries accounts lines) 1 (night_windows accounts lines)
    ++ record { file = Plan; text = last_row (strays_of_lines accounts lines) } ∷ []

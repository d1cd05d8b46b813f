-- How the runs of a night's lines are read.
use Rattle.std.specs.Prelude.{ℕ, ◌≡◌, ◌<◌, ◌⊎◌, true, false, nat_lt, List, [], ◌∷◌, ◌++◌, Option, None, Some, length}
use Rattle.std.specs.List.{AllByRecursion, list_any}
use Rattle.std.specs.Option.{option_map}
use Rattle.deck_reader.specs.Batch.{Run}
use Rattle.deck_reader.specs.Cards.{pieces}
use Rattle.night_shares.specs.declared.runs.Runs.{Runs}
use Rattle.night_shares.specs.Lines.{begins_job, front_lines, line_runs, lines_from_head, run_lines, text_of_lines}
use Rattle.night_shares.specs.Plan.{row}
use Rattle.night_shares.specs.Reading.{IsInLine, to_come}

-- the text of the line that begins the next run, where it has been read
abbrev pub head_of : Runs → Option (List ℕ)
head_of runs = option_map (λ h. h.items) runs.head

-- the bytes to come behind that
abbrev pub bytes_to_come : Runs → Option (List ℕ) → Option (List ℕ)
bytes_to_come runs left = to_come runs.lines left

-- a run of lines: no line feed stands in one, and the first alone begins a job
pub record IsRun (run : Run) : Type 0 where
  pub begins : begins_job run.head ≡ true
  pub others : list_any begins_job run.behind ≡ false
  pub in_lines : AllByRecursion IsInLine (run_lines run)

-- these lines are still to come, and the first of them, which begins a job, has been read; or there are none
abbrev pub AtHead : Option (List ℕ) → Option (List ℕ) → List (List ℕ) → Type 0
AtHead None come lines = (come ≡ Some []) × (lines ≡ [])
AtHead (Some text) come lines =
    (line : List ℕ) × (bytes : List ℕ) × (come ≡ Some bytes) × (text ≡ row line) × IsInLine line × (begins_job line ≡ true) × (lines ≡ line ∷ pieces bytes)

-- lines up to the next that begins a job were taken behind a text
pub record TakesUpTo (before : List ℕ) (bytes : List ℕ) (head come : Option (List ℕ)) (text : List ℕ) : Type 0 where
  pub text_is : text ≡ before ++ text_of_lines (front_lines (pieces bytes))
  pub at_head : AtHead head come (lines_from_head (pieces bytes))
  pub in_lines : AllByRecursion IsInLine (front_lines (pieces bytes))

-- a run was taken from the front of these lines
pub record TakesRun (lines : List (List ℕ)) (head come : Option (List ℕ)) (text : List ℕ) : Type 0 where
  pub run : Run
  pub is_run : IsRun run
  pub text_is : text ≡ text_of_lines (run_lines run)
  pub rest : List (List ℕ)
  pub lines_are : lines ≡ run_lines run ++ rest
  pub runs_are : line_runs lines ≡ run ∷ line_runs rest
  pub at_head : AtHead head come rest

-- a run was taken, or there are no more lines
abbrev pub TakesNext : List (List ℕ) → Option (List ℕ) → Option (List ℕ) → Option (List ℕ) → Type 0
TakesNext lines head come None = lines ≡ []
TakesNext lines head come (Some text) = TakesRun lines head come text

-- some line has over 4,194,304 bytes
abbrev pub HasLongLine : List (List ℕ) → Type 0
HasLongLine lines = list_any (λ line. nat_lt 4194304 (length line)) lines ≡ true

-- these lines, up to the first that begins a job, are too large behind a text
abbrev pub IsLargeUpTo : List ℕ → List (List ℕ) → Type 0
IsLargeUpTo before lines = (4194304 < length (before ++ text_of_lines (front_lines lines))) ⊎ HasLongLine lines

-- so is the first run of these lines
abbrev pub IsLargeRun : List (List ℕ) → Type 0
IsLargeRun lines = ((run : Run) × (rest : List Run) × (line_runs lines ≡ run ∷ rest) × (4194304 < length (text_of_lines (run_lines run)))) ⊎ HasLongLine lines

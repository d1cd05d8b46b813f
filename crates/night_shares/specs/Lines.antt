-- The lines of a night's cards, and the runs that they stand in.
use Rattle.std.specs.Prelude.{ℕ, Bool, List, ◌∷◌, drop, flat_map, map}
use Rattle.std.specs.List.{before_first, position_or_len}
use Rattle.deck_reader.specs.Batch.{Run, runs_by}
use Rattle.deck_reader.specs.Cards.{cleaned}
use Rattle.deck_reader.specs.Forms.{is_end, is_head}
use Rattle.night_shares.specs.Plan.{row}

-- whether the card of a line begins a job
abbrev pub begins_job : List ℕ → Bool
begins_job line = is_head (cleaned line)

-- whether it ends one
abbrev pub ends_job : List ℕ → Bool
ends_job line = is_end (cleaned line)

-- lines as a text, with a line feed behind each
abbrev pub text_of_lines : List (List ℕ) → List ℕ
text_of_lines lines = flat_map row lines

-- the lines before the first job
abbrev pub front_lines : List (List ℕ) → List (List ℕ)
front_lines lines = before_first begins_job lines

-- the lines from the first job on
abbrev pub lines_from_head : List (List ℕ) → List (List ℕ)
lines_from_head lines = drop (position_or_len begins_job lines) lines

-- one for each line that begins a job, with the lines up to the next
abbrev pub line_runs : List (List ℕ) → List Run
line_runs lines = runs_by begins_job lines

-- all lines of a run
abbrev pub run_lines : Run → List (List ℕ)
run_lines run = run.head ∷ run.behind

-- those of its job: up to the first that ends it
abbrev pub job_lines : Run → List (List ℕ)
job_lines run = before_first ends_job (run_lines run)

-- the cards of a run of lines
abbrev pub cleaned_run : Run → Run
cleaned_run run = record { head = cleaned run.head; behind = map cleaned run.behind }

-- The jobs of a night, each with the lines that are written for it.
use Rattle.std.specs.Prelude.{ℕ, ◌+◌, List, [], ◌∷◌, ◌++◌, Option, None, Some, codes, flat_map, map, replicate}
use Rattle.deck_reader.specs.declared.batch.Account.{Account}
use Rattle.deck_reader.specs.Batch.{Front, Run, body, front_of, job_of, strays}
use Rattle.deck_reader.specs.Cards.{cleaned}
use Rattle.deck_reader.specs.JobView.{JobView}
use Rattle.deck_reader.specs.LibraryView.{LibraryView, Shelved}
use Rattle.night_shares.specs.Lines.{cleaned_run, job_lines, line_runs, text_of_lines}
use Rattle.night_shares.specs.Plan.{row}

-- a job, and the text of its lines
pub record NightJob : Type 0 where
  pub job : JobView
  pub text : List ℕ

-- the job of a run of lines, under this number
abbrev pub job_in : Front → ℕ → Run → JobView
job_in front number run = job_of front number (cleaned_run run).head (body (cleaned_run run))

-- the jobs of runs of lines, numbered from here
abbrev pub night_jobs : Front → ℕ → List Run → List NightJob
night_jobs front number [] = []
night_jobs front number (run ∷ runs) = record { job = job_in front number run; text = text_of_lines (job_lines run) } ∷ night_jobs front (number + 1) runs

-- what the jobs of a night of these lines are judged by
abbrev pub night_front : List Account → List (List ℕ) → Front
night_front accounts lines = front_of (Some accounts) (map cleaned lines)

-- the jobs of a night of these lines
abbrev pub jobs_of_lines : List Account → List (List ℕ) → List NightJob
jobs_of_lines accounts lines = night_jobs (night_front accounts lines) 1 (line_runs lines)

-- how many stray cards there are
abbrev pub strays_of_lines : List Account → List (List ℕ) → ℕ
strays_of_lines accounts lines = strays (Some accounts) (map cleaned lines)

-- ---- libraries, as they stand at the head of each part

-- a card that is too long, so that the library that it stands in is ill formed
abbrev pub long_card : List ℕ
long_card = replicate 81 42

abbrev pub library_cards : Option LibraryView → List (List ℕ)
library_cards None = long_card ∷ []
library_cards (Some library) = library.cards

-- a library's cards: the one that begins it, and its own; of an ill-formed one a card that makes it so
abbrev pub library_text : Shelved → List ℕ
library_text kept = row (codes "%LIBRARY " ++ kept.name) ++ text_of_lines (library_cards kept.library)

-- the cards of libraries
abbrev pub libraries_text : List Shelved → List ℕ
libraries_text shelf = flat_map library_text shelf

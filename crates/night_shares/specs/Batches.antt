-- What one run of a night's lines is as a batch of its own, and what the lines before the first job are.
use Rattle.std.specs.Prelude.{ℕ, ◌≡◌, List, [], ◌∷◌, None, Some, map}
use Rattle.deck_reader.specs.declared.batch.Account.{Account}
use Rattle.deck_reader.specs.declared.batch.Batch.{Batch}
use Rattle.deck_reader.specs.declared.batch.Flaw.{Flaw}
use Rattle.deck_reader.specs.Batch.{Front, Run, account_of, outside, shelf_of, strays, written}
use Rattle.deck_reader.specs.Cards.{cleaned}
use Rattle.deck_reader.specs.JobView.{JobView}
use Rattle.night_shares.specs.Jobs.{job_in, libraries_text}
use Rattle.night_shares.specs.Lines.{cleaned_run}
use Rattle.night_shares.specs.Plan.{job_row, refused_row}

-- where no account is open and no library is kept
abbrev pub no_front : Front
no_front = record { accounts = []; shelf = [] }

-- the job of a run alone, where no account is open
abbrev pub lone_job : Run → JobView
lone_job run = job_in no_front 1 run

-- how many cards of a run are stray: those behind its job's end that aren't blank
abbrev pub run_strays : Run → ℕ
run_strays run = written (outside (cleaned_run run))

-- a run is a batch of one job
abbrev pub lone_batch : Run → Batch
lone_batch run = record { accounts = []; jobs = lone_job run ∷ []; stray = run_strays run }

-- how many of the cards before the first job are stray
abbrev pub front_strays : List (List ℕ) → ℕ
front_strays lines = strays (Some []) (map cleaned lines)

-- the libraries' cards of these lines, which stand before the first job
abbrev pub front_libraries : List (List ℕ) → List ℕ
front_libraries lines = libraries_text (shelf_of (map cleaned lines))

-- ---- beside the job that it is in the night

-- what a job is with an account, and without one: its account is the one of its account's name, and its line says so
pub record IsBeside (accounts : List Account) (job lone : JobView) : Type 0 where
  pub account_is : job.account ≡ account_of accounts lone.account_name
  pub flaw : Flaw
  pub has : lone.flaw ≡ Some flaw
  pub row_is : job.account ≡ None → (chains : ℕ) → job_row chains job ≡ refused_row flaw lone

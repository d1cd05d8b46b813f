-- What the statement of an account depends on.
use Rattle.std.specs.Prelude.{ℕ, ◌≡◌, List, [], ◌∷◌, map, slice_index, Option, Some}
use Rattle.deck_reader.specs.declared.batch.Batch.{Batch}
use Rattle.deck_reader.specs.Batch.{account_of}
use Rattle.deck_reader.specs.JobView.{JobView}
use Rattle.account_book.specs.BookView.{openings_of}
use Rattle.account_book.specs.OwnJobs.{as_own, own_jobs}
use Rattle.account_book.specs.Places.{place_balance}
use Rattle.algolw_meaning.specs.Charging.{charged, decision_at}
use Rattle.algolw_meaning.specs.Running.{job_result}
use Rattle.account_statements.specs.Statement.{balance_behind, statement_in}

-- the account with this name has the same opening and the same jobs in two batches, their numbers aside
pub record SameAccount (name : List ℕ) (one two : Batch) : Type 0 where
  pub first : ℕ
  pub second : ℕ
  pub in_one : account_of one.accounts name ≡ Some first
  pub in_two : account_of two.accounts name ≡ Some second
  pub openings : slice_index (openings_of one.accounts) first ≡ slice_index (openings_of two.accounts) second
  pub jobs : own_jobs first one.jobs ≡ own_jobs second two.jobs

-- then its statements are the same
abbrev pub StatementsByAccount : Type 0
StatementsByAccount = (name : List ℕ) (one two : Batch) → SameAccount name one two → statement_in name one ≡ statement_in name two

-- what a job gives doesn't depend on its number, nor on its account's
abbrev pub ResultsByContent : Type 0
ResultsByContent = (job : JobView) (number : ℕ) (account : Option ℕ) → job_result (record job { number = number; account = account }) ≡ job_result job

-- the balance of an account behind some jobs is the one behind its own jobs among them
abbrev pub OwnBalances : Type 0
OwnBalances = (openings : List ℕ) (jobs : List JobView) (account : ℕ)
    → balance_behind (slice_index openings account) (own_jobs account jobs) ≡ place_balance openings (map charged jobs) account

-- what becomes of a job at its place in a batch is what becomes of it behind its account's jobs alone
abbrev pub DecisionsByAccount : Type 0
DecisionsByAccount = (openings : List ℕ) (earlier : List JobView) (job : JobView) (account number : ℕ) → job.account ≡ Some account
    → decision_at (slice_index openings account ∷ []) (own_jobs account earlier) (as_own number job) ≡ decision_at openings earlier job

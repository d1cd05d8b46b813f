-- What becomes of each job of a batch, and what it costs.
use Rattle.std.specs.Prelude.{ℕ, Bool, List, if◌then◌else◌, map, take, Option, Some, None}
use Rattle.std.specs.List.{enumerate_from}
use Rattle.deck_reader.specs.declared.batch.Flaw.{Flaw}
use Rattle.deck_reader.specs.JobView.{JobView}
use Rattle.account_book.specs.Charges.{charge, reserve}
use Rattle.account_book.specs.Places.{Claim, claim_of, covers, place_balance}
use Rattle.account_book.specs.declared.charges.Counts.{Counts}
use Rattle.account_book.specs.declared.decision.Decision.{Decision}
use Rattle.account_book.specs.declared.decision.Decision.TheVariants.{Flawed, Refused, Charged}
use Rattle.algolw_meaning.specs.Running.{job_result}

-- a job's claim, and its charge where it is accepted
abbrev pub charged : JobView → Claim × ℕ
charged job = (claim_of job, charge (job_result job).counts)

-- the balance of the account that is to pay, and none where there is no account
abbrev pub balance_on : (ℕ → ℕ) → Option ℕ → ℕ
balance_on balance None = 0
balance_on balance (Some account) = balance account

abbrev pub decision_by : Option Flaw → Bool → ℕ → ℕ → Counts → Decision
decision_by (Some flaw) covered reserve balance counts = Flawed flaw
decision_by None covered reserve balance counts = if covered then Charged counts else Refused reserve balance

-- what becomes of a job where these are the balances: refused for its flaw; run where its reserve is covered; refused otherwise
abbrev pub decision : (ℕ → ℕ) → JobView → Decision
decision balance job = decision_by job.flaw (covers balance job.account (reserve job)) (reserve job) (balance_on balance job.account) (job_result job).counts

-- what becomes of a job at its place, behind these jobs
abbrev pub decision_at : List ℕ → List JobView → JobView → Decision
decision_at openings earlier job = decision (place_balance openings (map charged earlier)) job

-- what becomes of each job at its place
abbrev pub decisions : List ℕ → List JobView → List Decision
decisions openings jobs = map (λ p. decision_at openings (take p.0 jobs) p.1) (enumerate_from 0 jobs)

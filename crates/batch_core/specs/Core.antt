-- A batch while its jobs are admitted: how far each job is, and what that leaves of each account.
use Rattle.std.specs.Prelude.{ℕ, ◌-◌, List, [], Option, None, option_map, slice_get, if◌then◌else◌, sum_by, slice_index, slice_index_or}
use Rattle.account_book.specs.Places.{is_on}
use Rattle.batch_core.specs.declared.job.Claim.{Claim}
use Rattle.batch_core.specs.declared.job.Stage.{Stage}
use Rattle.batch_core.specs.declared.job.Stage.TheVariants.{Undecided, Refused, Outstanding, Ended}
use Rattle.batch_core.specs.declared.job.JobState.{JobState}

-- the openings of the accounts, the jobs that have arrived, how many of them are decided, and how many printed
pub record Core : Type 0 where
  pub openings : List ℕ
  pub jobs : List JobState
  pub decided : ℕ
  pub printed : ℕ

-- before any event
abbrev pub start : List ℕ → Core
start openings = record { openings = openings; jobs = []; decided = 0; printed = 0 }

-- a job as it arrives
abbrev pub arrived : Claim → JobState
arrived claim = record { claim = claim; stage = Undecided }

-- where no job is, one that asks nothing
abbrev pub no_job : JobState
no_job = arrived (record { account = None; reserve = 0; cards = 0 })

-- the job at a place, which is how many jobs are before it; its number is one more
abbrev pub job_at : Core → ℕ → JobState
job_at core place = slice_index_or core.jobs place no_job

-- how far it is, where one is there
abbrev pub stage_at : Core → ℕ → Option Stage
stage_at core place = option_map (λ job. job.stage) (slice_get core.jobs place)

-- the charge of a job that has ended
abbrev pub charged : Stage → ℕ
charged Undecided = 0
charged Refused = 0
charged Outstanding = 0
charged (Ended charge) = charge

-- an amount of a job, as long as it is outstanding
abbrev pub held : Stage → ℕ → ℕ
held Undecided amount = 0
held Refused amount = 0
held Outstanding amount = amount
held (Ended charge) amount = 0

-- what a job's amount is to an account
abbrev pub share : (JobState → ℕ) → ℕ → JobState → ℕ
share amount account job = if is_on account job.claim.account then amount job else 0

-- the charges of the ended jobs of an account
abbrev pub settled_on : List JobState → ℕ → ℕ
settled_on jobs account = sum_by (share (λ job. charged job.stage) account) jobs

-- the reserves of its outstanding jobs
abbrev pub reserved_on : List JobState → ℕ → ℕ
reserved_on jobs account = sum_by (share (λ job. held job.stage job.claim.reserve) account) jobs

-- the cards of its outstanding jobs
abbrev pub cards_on : List JobState → ℕ → ℕ
cards_on jobs account = sum_by (share (λ job. held job.stage job.claim.cards) account) jobs

-- what is left of an account once its ended jobs have paid
abbrev pub balance : Core → ℕ → ℕ
balance core account = slice_index core.openings account - settled_on core.jobs account

-- the least that the outstanding jobs can leave of it
abbrev pub low : Core → ℕ → ℕ
low core account = balance core account - reserved_on core.jobs account

-- the most that they can leave
abbrev pub high : Core → ℕ → ℕ
high core account = balance core account - cards_on core.jobs account

-- The jobs of one account, as a batch of their own has them.
use Rattle.std.specs.Prelude.{ℕ, ◌+◌, Bool, List, [], ◌∷◌, Some, filter}
use Rattle.deck_reader.specs.JobView.{JobView}
use Rattle.account_book.specs.Places.{is_on}

-- whether the account with this number is the job's
abbrev pub is_of : ℕ → JobView → Bool
is_of account job = is_on account job.account

-- those of the jobs that are the account's, in order
abbrev pub jobs_on : ℕ → List JobView → List JobView
jobs_on account jobs = filter (is_of account) jobs

-- a job with this number, whose account is the first
abbrev pub as_own : ℕ → JobView → JobView
as_own number job = record job { number = number; account = Some 0 }

-- the jobs, numbered from here, whose account is the first
abbrev pub numbered : ℕ → List JobView → List JobView
numbered number [] = []
numbered number (job ∷ jobs) = as_own number job ∷ numbered (number + 1) jobs

-- the account's jobs, numbered anew from 1, with account 0
abbrev pub own_jobs : ℕ → List JobView → List JobView
own_jobs account jobs = numbered 1 (jobs_on account jobs)

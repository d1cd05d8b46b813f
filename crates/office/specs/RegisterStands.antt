-- What a register keeps.
use Rattle.std.specs.Prelude.{ℕ, ◌≡◌, ◌≤◌, Option, Some, None, length, map, slice_get, slice_index_or}
use Rattle.std.specs.List.{range_with_len}
use Rattle.deck_reader.specs.JobView.{JobView}
use Rattle.account_book.specs.Charges.{charge}
use Rattle.algolw_meaning.specs.EndedView.{EndedView}
use Rattle.algolw_meaning.specs.Running.{job_result}
use Rattle.batch_core.specs.declared.job.Stage.{Stage}
use Rattle.batch_core.specs.declared.job.Stage.TheVariants.{Undecided, Refused, Outstanding, Ended}
use Rattle.batch_core.specs.Core.{start, job_at}
use Rattle.batch_core.specs.Events.{Legal, replay}
use Rattle.batch_core.specs.Laws.{IsAccepted}
use Rattle.batch_core.specs.Claims.{claim_of_job}
use Rattle.office.specs.Sums.{reserved_in}
use Rattle.office.specs.Register.{RegisterView}

-- the charge of an ended job is that of what it means
abbrev pub IsCharged : JobView → Stage → Type 0
IsCharged job Undecided = Unit {0}
IsCharged job Refused = Unit {0}
IsCharged job Outstanding = Unit {0}
IsCharged job (Ended paid) = paid ≡ charge (job_result job).counts

abbrev pub IsEnded : Stage → Type 0
IsEnded Undecided = ⊥
IsEnded Refused = ⊥
IsEnded Outstanding = ⊥
IsEnded (Ended paid) = Unit {0}

-- a result that is there, and is that of a job: the type of a result keeps that it is what its job means
abbrev pub IsResultOf : JobView → Option EndedView → Type 0
IsResultOf job None = ⊥
IsResultOf job (Some result) = result.job ≡ job

-- what is kept of a job at its stage, at a place behind which so many are printed: an accepted one has no flaw; an ended one is charged what it costs, and its result is kept until it is printed; of the others none is
pub record IsKept (printed place : ℕ) (stage : Stage) (job : JobView) (kept : Option EndedView) : Type 0 where
  pub flaw : IsAccepted stage → job.flaw ≡ None
  pub charge : IsCharged job stage
  pub result : IsEnded stage → printed ≤ place → IsResultOf job kept
  pub none : (IsEnded stage → ⊥) → kept ≡ None

pub record RegisterStands (r : RegisterView) : Type 0 where
  -- the journal is legal, and its events make the batch what it is
  pub legal : Legal (start r.core.openings) r.journal
  pub replays : replay (start r.core.openings) r.journal ≡ r.core
  -- the jobs are numbered from 1, and claim what they ask
  pub numbers : map (λ job. job.number) r.jobs ≡ range_with_len 1 (length r.jobs)
  pub claims : map (λ job. job.claim) r.core.jobs ≡ map claim_of_job r.jobs
  pub each : length r.results ≡ length r.jobs
  pub results : (place : ℕ) (job : JobView) → slice_get r.jobs place ≡ Some job → IsKept r.core.printed place (job_at r.core place).stage job (slice_index_or r.results place None)
  pub reserved : r.reserved ≡ reserved_in r.core.jobs

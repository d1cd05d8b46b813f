-- When each answer to a decision comes, and what it changes.
use Rattle.std.specs.Prelude.{ℕ, ◌≡◌, ◌<◌, ◌≤◌, ◌+◌, Option, Some, None, if◌then◌else◌, length, nat_lt, slice_get}
use Rattle.deck_reader.specs.declared.batch.Flaw.{Flaw}
use Rattle.deck_reader.specs.JobView.{JobView}
use Rattle.account_book.specs.Charges.{reserve}
use Rattle.batch_core.specs.Core.{Core}
use Rattle.office.specs.declared.answers.Admitted.{Admitted}
use Rattle.office.specs.declared.answers.Admitted.TheVariants.{Accepted, Refused, Flawed, Waits, Full, NoneArrived}
use Rattle.office.specs.Prospects.{IsNext, low_of, high_of}
use Rattle.office.specs.Register.{RegisterView, refused}
use Rattle.office.specs.OfficeView.{OfficeView, with_register, with_accepted, with_full}

-- it has no flaw, and its account covers its reserve whatever the outstanding jobs will cost
pub record IsCovered (r : RegisterView) (number : ℕ) (job : JobView) : Type 0 where
  pub next : IsNext r number job
  pub flaw : job.flaw ≡ None
  pub covered : reserve job ≤ low_of r.core job.account

-- it has no flaw, and its account doesn't, whatever they will cost
pub record IsUncovered (r : RegisterView) (number asked most : ℕ) (job : JobView) : Type 0 where
  pub next : IsNext r number job
  pub flaw : job.flaw ≡ None
  pub reserve : asked ≡ reserve job
  pub high : most ≡ high_of r.core job.account
  pub uncovered : most < asked

-- it has no flaw, and what the outstanding jobs cost will tell
pub record IsOpen (r : RegisterView) (number least most : ℕ) (job : JobView) : Type 0 where
  pub next : IsNext r number job
  pub flaw : job.flaw ≡ None
  pub low : least ≡ low_of r.core job.account
  pub high : most ≡ high_of r.core job.account
  pub above : least < reserve job
  pub below : reserve job ≤ most

-- when an answer comes
abbrev pub Answers : RegisterView → Admitted → Type 0
Answers r (Accepted number) = (job : JobView) × IsCovered r number job
Answers r (Refused number reserved most) = (job : JobView) × IsUncovered r number reserved most job
Answers r (Flawed number flaw) = (job : JobView) × IsNext r number job × (job.flaw ≡ Some flaw)
Answers r (Waits number least most) = (job : JobView) × IsOpen r number least most job
Answers r (Full number) = (job : JobView) × IsCovered r number job
Answers r NoneArrived = length r.jobs ≤ r.core.decided

-- the office behind it
abbrev pub behind : OfficeView → Admitted → OfficeView
behind o (Accepted number) = with_accepted o
behind o (Refused number reserved most) = with_register o (refused o.register)
behind o (Flawed number flaw) = with_register o (refused o.register)
behind o (Waits number least most) = o
behind o (Full number) = with_full o
behind o NoneArrived = o

-- what was decided, whatever the queue said
abbrev pub decided_as : Admitted → Admitted
decided_as (Accepted number) = Accepted number
decided_as (Refused number asked most) = Refused number asked most
decided_as (Flawed number flaw) = Flawed number flaw
decided_as (Waits number least most) = Waits number least most
decided_as (Full number) = Accepted number
decided_as NoneArrived = NoneArrived

-- what is to be decided of a job without a flaw, by its reserve and the least and the most that its account can have
abbrev pub by_balance : ℕ → ℕ → ℕ → ℕ → Admitted
by_balance number asked least most = if nat_lt most asked then Refused number asked most else (if nat_lt least asked then Waits number least most else Accepted number)

abbrev pub by_flaw : Core → ℕ → JobView → Option Flaw → Admitted
by_flaw core number job None = by_balance number (reserve job) (low_of core job.account) (high_of core job.account)
by_flaw core number job (Some flaw) = Flawed number flaw

abbrev pub by_job : Core → ℕ → Option JobView → Admitted
by_job core number None = NoneArrived
by_job core number (Some job) = by_flaw core number job job.flaw

-- what is to be decided of the next undecided job
abbrev pub decision : RegisterView → Admitted
decision r = by_job r.core (r.core.decided + 1) (slice_get r.jobs r.core.decided)

-- Which jobs an office lets in.
use Rattle.std.specs.Prelude.{ℕ, ◌≡◌, ◌+◌, ◌<◌, Option, Some, None, length, min}
use Rattle.deck_reader.specs.JobView.{JobView}
use Rattle.batch_core.specs.Events.{IsThere}
use Rattle.office.specs.declared.answers.ArriveError.{ArriveError}
use Rattle.office.specs.declared.answers.ArriveError.TheVariants.{Misfit, NoMemory}
use Rattle.office.specs.Register.{RegisterView}

-- an account that is named is one of so many
abbrev pub IsBelow : ℕ → Option ℕ → Type 0
IsBelow accounts None = Unit {0}
IsBelow accounts (Some account) = account < accounts

-- the next job by its number, on an account that is there if it is on one
pub record Fits (r : RegisterView) (job : JobView) : Type 0 where
  pub number : job.number ≡ length r.jobs + 1
  pub account : IsThere r.core.openings job.account

-- a job that doesn't fit is told the next number, and how many accounts there are; one that does may find memory wanting
abbrev pub IsMisfit : RegisterView → JobView → ArriveError → Type 0
IsMisfit r job (Misfit next accounts) = (Fits r job → ⊥) × (next ≡ length r.jobs + 1) × (accounts ≡ min (length r.core.openings) 4294967295)
IsMisfit r job NoMemory = Fits r job

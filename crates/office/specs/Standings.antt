-- What is kept for the number of a job.
use Rattle.std.specs.Prelude.{ℕ, zero, suc, ◌≡◌, ◌-◌, Option, Some, None, slice_get}
use Rattle.deck_reader.specs.JobView.{JobView}
use Rattle.account_book.specs.Charges.{reserve}
use Rattle.batch_core.specs.declared.job.Stage.{Stage}
use Rattle.batch_core.specs.declared.job.Stage.TheVariants as stage
use Rattle.batch_core.specs.Core.{stage_at}
use Rattle.algolw_meaning.specs.EndedView.{EndedView}
use Rattle.algolw_meaning.specs.declared.brought.Brought.{Brought}
use Rattle.algolw_meaning.specs.declared.brought.Brought.TheVariants as brought
use Rattle.office.specs.declared.standing.Standing.{Standing}
use Rattle.office.specs.declared.standing.Standing.TheVariants.{NotArrived, Undecided, Refused, Running, Ended}
use Rattle.office.specs.Register.{RegisterView}

abbrev pub standing_by : Option Stage → Standing
standing_by None = NotArrived
standing_by (Some stage.Undecided) = Undecided
standing_by (Some stage.Refused) = Refused
standing_by (Some stage.Outstanding) = Running
standing_by (Some (stage.Ended charge)) = Ended

-- of a job by its number, which counts from 1
abbrev pub standing_of : RegisterView → ℕ → Standing
standing_of r zero = NotArrived
standing_of r (suc place) = standing_by (stage_at r.core place)

-- an amount is kept, as that of a running job's reserve, for the job of this number
pub record IsRunning (r : RegisterView) (number amount : ℕ) (job : JobView) : Type 0 where
  pub running : standing_of r number ≡ Running
  pub kept : slice_get r.jobs (number - 1) ≡ Some job
  pub reserved : reserve job ≡ amount

-- what is brought of a job that is over, where this is its result
abbrev pub brought_by : Option EndedView → Brought
brought_by None = brought.Refused
brought_by (Some result) = brought.Ended result

-- how the job stands of which this is brought: it was refused, or it has ended
abbrev pub standing_told : Brought → Standing
standing_told brought.Refused = Refused
standing_told (brought.Ended result) = Ended

-- where a result is brought, this holds of it
abbrev pub IfResult : Brought → (EndedView → Type 0) → Type 0
IfResult brought.Refused holds = Unit {0}
IfResult (brought.Ended result) holds = holds result

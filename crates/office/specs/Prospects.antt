-- What can be decided of a job.
use Rattle.std.specs.Prelude.{ℕ, ◌≡◌, ◌<◌, ◌≤◌, ◌+◌, Option, Some, None, slice_get}
use Rattle.deck_reader.specs.JobView.{JobView}
use Rattle.account_book.specs.Charges.{reserve}
use Rattle.batch_core.specs.Core.{Core, low, high}
use Rattle.office.specs.Register.{RegisterView}
use Rattle.office.specs.declared.prospect.Prospect.{Prospect}
use Rattle.office.specs.declared.prospect.Prospect.TheVariants.{Covered, Uncovered, Flawed, Open}

-- the least and the most that an account can have left
abbrev pub low_of : Core → Option ℕ → ℕ
low_of core None = 0
low_of core (Some account) = low core account

abbrev pub high_of : Core → Option ℕ → ℕ
high_of core None = 0
high_of core (Some account) = high core account

-- by the reserve of a job without a flaw, and the least and the most that its account can have left
abbrev pub IsByBounds : ℕ → ℕ → ℕ → Prospect → Type 0
IsByBounds asked least most (Covered reserved) = (reserved ≡ asked) × (asked ≤ least)
IsByBounds asked least most (Uncovered reserved top) = (reserved ≡ asked) × (top ≡ most) × (most < asked)
IsByBounds asked least most (Flawed flaw) = ⊥
IsByBounds asked least most (Open bottom top) = (bottom ≡ least) × (top ≡ most) × (least < asked) × (asked ≤ most)

-- of a job
abbrev pub Sees : Core → JobView → Prospect → Type 0
Sees core job (Covered reserved) = (job.flaw ≡ None) × (reserved ≤ 999999999) × (0 < reserved) × IsByBounds (reserve job) (low_of core job.account) (high_of core job.account) (Covered reserved)
Sees core job (Uncovered reserved top) = (job.flaw ≡ None) × IsByBounds (reserve job) (low_of core job.account) (high_of core job.account) (Uncovered reserved top)
Sees core job (Flawed flaw) = job.flaw ≡ Some flaw
Sees core job (Open bottom top) = (job.flaw ≡ None) × IsByBounds (reserve job) (low_of core job.account) (high_of core job.account) (Open bottom top)

-- the next undecided job has this number, and is this one
pub record IsNext (r : RegisterView) (number : ℕ) (job : JobView) : Type 0 where
  pub next : number ≡ r.core.decided + 1
  pub kept : slice_get r.jobs r.core.decided ≡ Some job

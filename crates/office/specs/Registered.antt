-- A register as it is stored.
use Rattle.std.specs.Prelude.{ℕ, ◌≡◌, ◌≤◌, ◌+◌, ◌*◌, length}
use Rattle.office.specs.Sums.{outstanding_in}
use Rattle.office.specs.Register.{RegisterView}
use Rattle.office.specs.RegisterStands.{RegisterStands}

-- with so much room for the journal, which is enough for all events of the jobs that have arrived: each has an arrival, a decision, an end and a printing
pub record Registered (r : RegisterView) (room outstanding : ℕ) : Type 0 where
  pub stands : RegisterStands r
  pub running : outstanding ≡ outstanding_in r.core.jobs
  pub numbers : length r.jobs ≤ 4294967295
  pub enough : 4 * length r.jobs ≤ room
  pub used : length r.journal + outstanding ≤ length r.jobs + 2 * r.core.decided + r.core.printed

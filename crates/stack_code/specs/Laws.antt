-- What running code keeps.
use Rattle.std.specs.Prelude.{◌≡◌, ℕ, ◌+◌}
use Rattle.program_meaning.specs.State.{Setting}
use Rattle.stack_code.specs.Machine.{Machine}
use Rattle.stack_code.specs.Code.{Code}
use Rattle.stack_code.specs.Run.{Outcome, IsOver, rows}

-- An outcome within some rows is the outcome within more.
abbrev pub OutcomesStay : Type 0
OutcomesStay = (set : Setting) (code : Code) (n more : ℕ) (m : Machine) (o : Outcome) → IsOver o → rows set code n m ≡ o → rows set code (n + more) m ≡ o

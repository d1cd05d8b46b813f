-- The display of every machine that rows reach is what walking the links gives.
use Rattle.std.specs.Prelude.{◌≡◌, ℕ, Some, None}
use Rattle.program_meaning.specs.State.{Setting}
use Rattle.stack_code.specs.Machine.{Machine, at_first, outwards}
use Rattle.stack_code.specs.Code.{Code}
use Rattle.stack_code.specs.Run.{further, row}

-- the first machine, and those to which a row leads from one that is reached
pub data IsReached (set : Setting) (code : Code) : Machine → Type 0 where
  at_start : IsReached set code at_first
  by_row : {m n : Machine} → IsReached set code m → row set code m ≡ further n → IsReached set code n

-- the text that runs stands inside so many levels: so many links lead to the program
abbrev pub StandsInside : Machine → ℕ → Type 0
StandsInside m levels = outwards m.frames m.current levels ≡ Some None

-- the display has the text so many levels out that walking as many links gives; so many levels out as the text that runs stands inside, it has the program
pub record DisplayIsLinks (m : Machine) : Type 0 where
  pub out : (n : ℕ) → m.display n ≡ outwards m.frames m.current n
  pub program : (levels : ℕ) → StandsInside m levels → m.display levels ≡ Some None

abbrev pub DisplaysAreLinks : Type 0
DisplaysAreLinks = (set : Setting) (code : Code) (m : Machine) → IsReached set code m → DisplayIsLinks m

-- A library as contracts see it.
use Rattle.std.specs.Prelude.{List, ℕ, Option}

pub record LibraryView : Type 0 where
  pub name : List ℕ
  pub cards : List (List ℕ)

-- a library that is kept: its name, and the library unless that is ill formed
pub record Shelved : Type 0 where
  pub name : List ℕ
  pub library : Option LibraryView

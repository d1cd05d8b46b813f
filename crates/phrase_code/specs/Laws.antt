-- What is said of the code of every phrase.
use Rattle.std.specs.Prelude.{◌≡◌, ℕ, ◌+◌, length, []}
use Rattle.value_ops.specs.declared.places.Place.{Place}
use Rattle.program_meaning.specs.Phrases.{Phrase}
use Rattle.stack_code.specs.Instr.{Mode}
use Rattle.stack_code.specs.GoingOn.{WellFormed}
use Rattle.phrase_code.specs.Sizes.{size}
use Rattle.phrase_code.specs.Coding.{Context, known, code, program_code}

-- The code of a phrase has as many instructions as its size says, and that of a program one more.
pub record CodeIsSized : Type 0 where
  pub phrases : (c : Context) (w : Place) (u : Mode) (k : ℕ) (a : Phrase) → length (code c w u k a) ≡ size (known c) a
  pub programs : (a : Phrase) → length (program_code a).instructions ≡ size [] a + 1

-- Each instruction of a program's code goes on where one stands, and what it names is there.
abbrev pub CodeIsWellFormed : Type 0
CodeIsWellFormed = (a : Phrase) → WellFormed (program_code a).instructions

-- How the lines of a source are read.
use Rattle.std.specs.Prelude.{ℕ, ◌≡◌, ◌==◌, ◌<◌, Bool, true, false, List, [], ◌∷◌, ◌++◌, Option, Some, length}
use Rattle.std.specs.List.{list_any, slice_range}
use Rattle.std.specs.Io.KnownBytes.{Consumes, IsAtEnd, prepend_known}
use Rattle.deck_reader.specs.Cards.{pieces}
use Rattle.night_shares.specs.declared.lines.Lines.{Lines}
use Rattle.night_shares.specs.Plan.{row}

-- the bytes that are held
abbrev pub held : Lines → List ℕ
held lines = slice_range lines.buffer.items lines.from lines.to

-- the bytes to come: those that are held, and those that the source has left, where it can tell them
abbrev pub to_come : Lines → Option (List ℕ) → Option (List ℕ)
to_come lines left = prepend_known (held lines) left

-- no line feed stands in these bytes
abbrev pub IsInLine : List ℕ → Type 0
IsInLine bytes = list_any (λ b. b == 10) bytes ≡ false

-- what is held of a line goes behind the line, with its line feed where that is held
abbrev pub Moves : Lines → Lines → List ℕ → List ℕ → Bool → Type 0
Moves old new before now true = (front : List ℕ) × IsInLine front × (held old ≡ front ++ 10 ∷ held new) × (now ≡ before ++ row front)
Moves old new before now false = IsInLine (held old) × (held new ≡ []) × (now ≡ before ++ held old)

-- what was read is held, or there is nothing to read
abbrev pub Fills : Lines → Option (List ℕ) → Option (List ℕ) → Bool → Type 0
Fills new left left' true = (0 < length (held new)) × Consumes left left' (held new)
Fills new left left' false = (held new ≡ []) × Consumes left left' [] × IsAtEnd left'

-- a line was taken from the front of these bytes, with a line feed behind it, or there is none
abbrev pub TakesLine : List ℕ → List ℕ → Option (List ℕ) → Bool → Type 0
TakesLine bytes text left true = (line : List ℕ) × (rest : List ℕ) × IsInLine line × (left ≡ Some rest) × (text ≡ row line) × (pieces bytes ≡ line ∷ pieces rest)
TakesLine bytes text left false = (bytes ≡ []) × (left ≡ Some []) × (text ≡ [])

-- the first line of these bytes has over 4,194,304 of them
pub record HasLongFirst (bytes : List ℕ) : Type 0 where
  pub line : List ℕ
  pub others : List (List ℕ)
  pub are : pieces bytes ≡ line ∷ others
  pub long : 4194304 < length line

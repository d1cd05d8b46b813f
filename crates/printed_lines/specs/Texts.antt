-- Printable characters, and texts and words of them.
use Rattle.std.specs.Prelude.{◌≡◌, ℕ, ◌≤◌, ⊤, List, ◌∷◌, All}
use Rattle.value_ops.specs.declared.values.Value.{Value}
use Rattle.value_ops.specs.declared.values.Value.TheVariants as value

-- from the blank to the tilde: no line feed is one
abbrev pub IsPrintable : ℕ → Type 0
IsPrintable c = (32 ≤ c) × (c ≤ 126)

pub record IsText (text : List ℕ) : Type 0 where
  pub each : All IsPrintable text

-- printable, and no blank
abbrev pub IsVisible : ℕ → Type 0
IsVisible c = (33 ≤ c) × (c ≤ 126)

pub record IsWord (text : List ℕ) : Type 0 where
  pub each : All IsVisible text

-- a text that begins with a blank
pub record IsIndented (text : List ℕ) : Type 0 where
  pub behind : List ℕ
  pub is : text ≡ 32 ∷ behind

-- a string is a text
abbrev pub ValueHolds : Value → Type 0
ValueHolds (value.Str s) = IsText s
ValueHolds v = ⊤

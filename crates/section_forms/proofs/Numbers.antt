-- The text of a number: digits, of which there is at least one.
use Rattle.std.proofs.Common.{◌≡◌, ℕ, zero, suc, ◌+◌, ◌/◌, ◌%◌, ◌<◌, ◌≤◌, Bool, true, false, ◌==◌, nat_lt, if◌then◌else◌, List, [], ◌∷◌, All, decimal, refl, arith}
use Rattle.std.specs.Fmt.{digits, digits_onto, digit_glyph}
use Rattle.std.proofs.Math.Nat.{mod-lt}
use Rattle.std.proofs.lemmas.Bool.{lt-ltb}
use Rattle.std.proofs.lemmas.List.Elements.{All-nil, All-cons}
use Rattle.printed_lines.proofs.Texts.{either}

abbrev pub IsDigit : ℕ → Type 0
IsDigit c = (48 ≤ c) × (c ≤ 57)

-- one digit or more, and nothing else
pub record IsNumeral (text : List ℕ) : Type 0 where
  pub first : ℕ
  pub rest : List ℕ
  pub is : text ≡ first ∷ rest
  pub first_digit : IsDigit first
  pub each : All IsDigit text

glyph_at : (b : Bool) (d : ℕ) → d < 10 → b ≡ true → IsDigit (if b then 48 + d else 87 + d)
glyph_at true d h k = (omega arith, omega arith)
glyph_at false d h k = absurd (cc k)

glyph : (d : ℕ) → d < 10 → IsDigit (digit_glyph false d)
glyph d h = glyph_at (nat_lt d 10) d h (lt-ltb d 10 h)

numeral : (c : ℕ) (s : List ℕ) → IsDigit c → All IsDigit s → IsNumeral (c ∷ s)
numeral c s h k = record { first = c; rest = s; is = refl; first_digit = h; each = All-cons IsDigit c s h k }

more_digits : (k n : ℕ) (acc : List ℕ) → IsNumeral acc → IsNumeral (digits_onto k 10 false n acc)
more_digits zero n acc h = h
more_digits (suc k) n acc h =
    let m : IsNumeral (digit_glyph false (n % 10) ∷ acc) = numeral (digit_glyph false (n % 10)) acc (glyph (n % 10) (mod-lt n (omega arith))) h.each in
    either IsNumeral (n / 10 == 0) _ _ m (more_digits k (n / 10) _ m)

pub decimal_numeral : (n : ℕ) → IsNumeral (decimal n)
unfolding digits
decimal_numeral n =
    let m : IsNumeral (digit_glyph false (n % 10) ∷ []) = numeral (digit_glyph false (n % 10)) [] (glyph (n % 10) (mod-lt n (omega arith))) (All-nil IsDigit) in
    either IsNumeral (n / 10 == 0) _ _ m (more_digits 63 (n / 10) _ m)

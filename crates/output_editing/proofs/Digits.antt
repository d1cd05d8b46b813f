-- Numbers in columns.
use Rattle.std.proofs.Common.{◌≡◌, ℕ, ◌-◌, ℤ, List, ◌++◌, length, max, ap, ◌∙◌, arith}
use Rattle.std.specs.Int.{cast_signed, cast_unsigned, w32, w64}
use Rattle.std.specs.Prelude.{FitsSigned}
use Rattle.std.proofs.lemmas.Int.{to_z-of_z}
use Rattle.short_text.specs.Blanks.{blanks, right}

-- an integer of 32 bits is the same in 64
pub widened : (wide number : ℤ) → FitsSigned w32 number → wide ≡ cast_signed w32 (cast_unsigned w32 number) → cast_signed w64 (cast_unsigned w64 wide) ≡ number
widened wide number fits is =
    ap (λ (z : ℤ). cast_signed w64 (cast_unsigned w64 z)) (is ∙ to_z-of_z w32 number fits) ∙ to_z-of_z w64 number (omega (arith, fits.sfits))

-- a text stands in as many columns as it has at least
pub right_least : (width : ℕ) (text : List ℕ) → right (max width (length text)) text ≡ right width text
right_least width text = let same : max width (length text) - length text ≡ width - length text = omega arith in ap (λ n. blanks n ++ text) same

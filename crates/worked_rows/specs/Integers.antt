-- What the operations on INTEGERs and on bits give, a row of text for each of their operands.
use Rattle.std.specs.Prelude.{◌≡◌, ℕ, ℤ, pos, neg_ℤ, Bool, true, false, List, [], ◌∷◌, ◌++◌, map, Result, Ok, Err, decimal, codes, bit_and, bit_or}
use Rattle.std.specs.Fmt.{signed_decimal}
use Rattle.std.specs.List.{flat_map, join_with_byte}
use Rattle.std.specs.Str.Parse.{digits_value}
use Rattle.line_text.specs.Texts.{bits_text}
use Rattle.value_ops.specs.declared.faults.Fault.{Fault}
use Rattle.value_ops.specs.Faults.{fault_number}
use Rattle.value_ops.specs.Integers.{sum, difference, product, quotient, remainder, negated, absolute, is_odd}
use Rattle.value_ops.specs.Bits.{shifted, complement, bits_of, integer_of}

-- an INTEGER below 0
abbrev pub minus : ℕ → ℤ
minus n = neg_ℤ (pos n)

-- bits, by their hexadecimal digits
abbrev pub bits : List ℕ → ℕ
bits digits = digits_value 16 digits

-- the columns of a row, with a blank between each two
abbrev pub row : List (List ℕ) → List ℕ
row columns = join_with_byte 32 columns

-- a fault is F and its number
abbrev pub answer : {A : Type 0} → (A → List ℕ) → Result A Fault → List ℕ
answer text (Ok value) = text value
answer text (Err fault) = codes "F" ++ decimal (fault_number fault)

-- ---- INTEGERs

abbrev pub parity : Bool → List ℕ
parity true = codes "odd"
parity false = codes "even"

-- two INTEGERs, and their sum, difference, product, quotient and remainder
abbrev pub pair_row : ℤ → ℤ → List ℕ
pair_row a b = row (signed_decimal a ∷ signed_decimal b ∷ map (answer signed_decimal) (sum a b ∷ difference a b ∷ product a b ∷ quotient a b ∷ remainder a b ∷ []))

-- an INTEGER, its negation, its size, whether it is odd, its bits as a number, and the INTEGER of these
abbrev pub single_row : ℤ → List ℕ
single_row a = row (signed_decimal a ∷ answer signed_decimal (negated a) ∷ answer signed_decimal (absolute a) ∷ parity (is_odd a) ∷ decimal (bits_of a) ∷ signed_decimal (integer_of (bits_of a)) ∷ [])

abbrev pub operands : List ℤ
operands = minus 2147483648 ∷ minus 7 ∷ minus 1 ∷ pos 0 ∷ pos 1 ∷ pos 2 ∷ pos 2147483647 ∷ []

-- each of the operands with each
abbrev pub pair_rows : List (List ℕ)
pair_rows =
    codes "-2147483648 -2147483648 F1 0 F1 1 0"
    ∷ codes "-2147483648 -7 F1 -2147483641 F1 306783378 -2"
    ∷ codes "-2147483648 -1 F1 -2147483647 F1 F1 0"
    ∷ codes "-2147483648 0 -2147483648 -2147483648 0 F2 F2"
    ∷ codes "-2147483648 1 -2147483647 F1 -2147483648 -2147483648 0"
    ∷ codes "-2147483648 2 -2147483646 F1 F1 -1073741824 0"
    ∷ codes "-2147483648 2147483647 -1 F1 F1 -1 -1"
    ∷ codes "-7 -2147483648 F1 2147483641 F1 0 -7"
    ∷ codes "-7 -7 -14 0 49 1 0"
    ∷ codes "-7 -1 -8 -6 7 7 0"
    ∷ codes "-7 0 -7 -7 0 F2 F2"
    ∷ codes "-7 1 -6 -8 -7 -7 0"
    ∷ codes "-7 2 -5 -9 -14 -3 -1"
    ∷ codes "-7 2147483647 2147483640 F1 F1 0 -7"
    ∷ codes "-1 -2147483648 F1 2147483647 F1 0 -1"
    ∷ codes "-1 -7 -8 6 7 0 -1"
    ∷ codes "-1 -1 -2 0 1 1 0"
    ∷ codes "-1 0 -1 -1 0 F2 F2"
    ∷ codes "-1 1 0 -2 -1 -1 0"
    ∷ codes "-1 2 1 -3 -2 0 -1"
    ∷ codes "-1 2147483647 2147483646 -2147483648 -2147483647 0 -1"
    ∷ codes "0 -2147483648 -2147483648 F1 0 0 0"
    ∷ codes "0 -7 -7 7 0 0 0"
    ∷ codes "0 -1 -1 1 0 0 0"
    ∷ codes "0 0 0 0 0 F2 F2"
    ∷ codes "0 1 1 -1 0 0 0"
    ∷ codes "0 2 2 -2 0 0 0"
    ∷ codes "0 2147483647 2147483647 -2147483647 0 0 0"
    ∷ codes "1 -2147483648 -2147483647 F1 -2147483648 0 1"
    ∷ codes "1 -7 -6 8 -7 0 1"
    ∷ codes "1 -1 0 2 -1 -1 0"
    ∷ codes "1 0 1 1 0 F2 F2"
    ∷ codes "1 1 2 0 1 1 0"
    ∷ codes "1 2 3 -1 2 0 1"
    ∷ codes "1 2147483647 F1 -2147483646 2147483647 0 1"
    ∷ codes "2 -2147483648 -2147483646 F1 F1 0 2"
    ∷ codes "2 -7 -5 9 -14 0 2"
    ∷ codes "2 -1 1 3 -2 -2 0"
    ∷ codes "2 0 2 2 0 F2 F2"
    ∷ codes "2 1 3 1 2 2 0"
    ∷ codes "2 2 4 0 4 1 0"
    ∷ codes "2 2147483647 F1 -2147483645 F1 0 2"
    ∷ codes "2147483647 -2147483648 -1 F1 F1 0 2147483647"
    ∷ codes "2147483647 -7 2147483640 F1 F1 -306783378 1"
    ∷ codes "2147483647 -1 2147483646 F1 -2147483647 -2147483647 0"
    ∷ codes "2147483647 0 2147483647 2147483647 0 F2 F2"
    ∷ codes "2147483647 1 F1 2147483646 2147483647 2147483647 0"
    ∷ codes "2147483647 2 F1 2147483645 F1 1073741823 1"
    ∷ codes "2147483647 2147483647 F1 0 F1 1 0"
    ∷ []

abbrev pub single_rows : List (List ℕ)
single_rows =
    codes "-2147483648 F1 F1 even 2147483648 -2147483648"
    ∷ codes "-7 7 7 odd 4294967289 -7"
    ∷ codes "-1 1 1 odd 4294967295 -1"
    ∷ codes "0 0 0 even 0 0"
    ∷ codes "1 -1 1 odd 1 1"
    ∷ codes "2 -2 2 even 2 2"
    ∷ codes "2147483647 -2147483647 2147483647 odd 2147483647 2147483647"
    ∷ []

pub record IntegersGive : Type 0 where
  pub pairs : flat_map (λ a. map (pair_row a) operands) operands ≡ pair_rows
  pub singles : map single_row operands ≡ single_rows

-- ---- bits

-- bits, an amount, and the bits shifted to the left and to the right
abbrev pub shift_row : ℕ → ℤ → List ℕ
shift_row all amount = row (bits_text all ∷ signed_decimal amount ∷ answer bits_text (shifted true all amount) ∷ answer bits_text (shifted false all amount) ∷ [])

abbrev pub patterns : List ℕ
patterns = bits (codes "FFFFFFFF") ∷ bits (codes "80000001") ∷ bits (codes "00000000") ∷ bits (codes "12345678") ∷ []

-- what greater amounts leave the law `far_shifts_leave_nothing` of `value_ops` says
abbrev pub amounts : List ℤ
amounts = pos 0 ∷ pos 1 ∷ pos 4 ∷ pos 31 ∷ pos 32 ∷ pos 33 ∷ []

-- each of the patterns by each of the amounts
abbrev pub shift_rows : List (List ℕ)
shift_rows =
    codes "FFFFFFFF 0 FFFFFFFF FFFFFFFF"
    ∷ codes "FFFFFFFF 1 FFFFFFFE 7FFFFFFF"
    ∷ codes "FFFFFFFF 4 FFFFFFF0 0FFFFFFF"
    ∷ codes "FFFFFFFF 31 80000000 00000001"
    ∷ codes "FFFFFFFF 32 00000000 00000000"
    ∷ codes "FFFFFFFF 33 00000000 00000000"
    ∷ codes "80000001 0 80000001 80000001"
    ∷ codes "80000001 1 00000002 40000000"
    ∷ codes "80000001 4 00000010 08000000"
    ∷ codes "80000001 31 80000000 00000001"
    ∷ codes "80000001 32 00000000 00000000"
    ∷ codes "80000001 33 00000000 00000000"
    ∷ codes "00000000 0 00000000 00000000"
    ∷ codes "00000000 1 00000000 00000000"
    ∷ codes "00000000 4 00000000 00000000"
    ∷ codes "00000000 31 00000000 00000000"
    ∷ codes "00000000 32 00000000 00000000"
    ∷ codes "00000000 33 00000000 00000000"
    ∷ codes "12345678 0 12345678 12345678"
    ∷ codes "12345678 1 2468ACF0 091A2B3C"
    ∷ codes "12345678 4 23456780 01234567"
    ∷ codes "12345678 31 00000000 00000000"
    ∷ codes "12345678 32 00000000 00000000"
    ∷ codes "12345678 33 00000000 00000000"
    ∷ []

-- amounts below 0
abbrev pub refused_shift_rows : List (List ℕ)
refused_shift_rows =
    codes "00000001 -1 F15 F15"
    ∷ codes "00000001 -2147483648 F15 F15"
    ∷ codes "00000000 -1 F15 F15"
    ∷ codes "00000000 -2147483648 F15 F15"
    ∷ []

pub record BitsGive : Type 0 where
  pub shifts : flat_map (λ all. map (shift_row all) amounts) patterns ≡ shift_rows
  pub refused : flat_map (λ all. map (shift_row all) (minus 1 ∷ minus 2147483648 ∷ [])) (1 ∷ 0 ∷ []) ≡ refused_shift_rows
  pub both : bit_and (bits (codes "000000FF")) (bits (codes "FFFFFF0F")) ≡ bits (codes "0000000F")
  pub either : bit_or (bits (codes "000000F0")) (bits (codes "8000000F")) ≡ bits (codes "800000FF")
  pub turned : complement (bits (codes "8000000F")) ≡ bits (codes "7FFFFFF0")

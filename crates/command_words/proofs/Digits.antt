-- The number that digits say, as std's parser reads it.
use Rattle.std.proofs.Common.{◌≡◌, ◌≤◌, ◌<◌, refl, ℕ, Bool, true, false, None, arith, nat_le, length}
use Rattle.std.specs.Prelude.{◌&&◌, ◌^◌, Result, Ok, Err}
use Rattle.std.specs.Result.{result_ok}
use Rattle.std.specs.Char.{is_ascii_digit}
use Rattle.std.specs.Int.{is_in_range}
use Rattle.std.specs.List.{list_all}
use Rattle.std.specs.Str.Parse.{ParsesUnsigned, digits_value}
use Rattle.std.proofs.lemmas.Bool.Decides.{nat_tests}
use Rattle.std.proofs.lemmas.Str.Parse.{IsDigitsTest, IsNumeralModel, numerals_by_value, parse_digits}
use Rattle.command_words.specs.Form.{Text, is_number, number_in}
use Rattle.command_words.proofs.Fresh.{and_first, and_second, both_true}

at_least : (m n : ℕ) → nat_le m n ≡ true → m ≤ n
at_least m n h = grind (arith, nat_tests)

is_at_least : (m n : ℕ) → m ≤ n → nat_le m n ≡ true
is_at_least m n h = grind (arith, nat_tests)

digits_test : IsDigitsTest (λ (text : Text). list_all is_ascii_digit text ≡ true)
digits_test = record {
  empty = refl;
  parts = λ c cs h. let range = and_first (is_ascii_digit c) (list_all is_ascii_digit cs) h in
      ((at_least 48 c (and_first _ _ range), at_least c 57 (and_second _ _ range)), and_second (is_ascii_digit c) (list_all is_ascii_digit cs) h);
  more = λ c cs range h. both_true _ _ (both_true _ _ (is_at_least 48 c range.0) (is_at_least c 57 range.1)) h;
}

numeral : IsNumeralModel (λ (text : Text). list_all is_ascii_digit text ≡ true) (digits_value 10)
numeral = numerals_by_value (λ (text : Text). list_all is_ascii_digit text ≡ true) digits_test

-- where the parser refuses digits, they say no number of 32 bits
pub no_number : {E : Type 0} (least most : ℕ) (text : Text) (r : Result ℕ E) → list_all is_ascii_digit text ≡ true → ParsesUnsigned 32 10 text r → result_ok r ≡ None → most < 2 ^ 32
    → number_in least most text ≡ None
no_number least most text (Ok n) digits parses fails fits = cc
no_number least most text (Err e) digits parses fails fits = go (is_number text && is_in_range least most (digits_value 10 text)) refl
  where
    refused : (0 < length text) × (digits_value 10 text < 2 ^ 32) → ⊥
    refused = parse_digits numeral 32 text (Err e) parses digits

    go : (b : Bool) → (is_number text && is_in_range least most (digits_value 10 text)) ≡ b → number_in least most text ≡ None
    go false h = rw h refl
    go true h =
        let some : 1 ≤ length text = at_least 1 (length text) (and_first _ _ (and_first _ _ h)) in
        let small : digits_value 10 text ≤ most = at_least (digits_value 10 text) most (and_second _ _ (and_second _ _ h)) in
        absurd (refused (omega (arith, some), omega (arith, small, fits)))

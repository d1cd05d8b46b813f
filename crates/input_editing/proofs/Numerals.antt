-- Numerals, and what std's parsers make of them.
use Rattle.std.proofs.Common.{◌≡◌, FitsSigned, ℕ, ◌^◌, ◌<◌, ◌≤◌, ◌==◌, nat_lt, nat_le, ℤ, pos, negsuc, Bool, true, false, ◌&&◌, cond, List, [], ◌∷◌, length, drop, Some, None, Result, Ok, Err, refl, sym, ap, ◌∙◌, arith}
use Rattle.std.proofs.Math.Nat.{pow-le-pow_right}
use Rattle.std.proofs.lemmas.Bool.{and_from, and_parts, eqb-true, leb-true, le-leb, false_from_ne_true, cond-true, cond-false}
use Rattle.std.proofs.lemmas.Bool.Decides.{nat_tests, Decides-and, Decides-ltb}
use Rattle.std.proofs.lemmas.Int.{ints}
use Rattle.std.proofs.lemmas.Int.Digits.{digits_value-lt}
use Rattle.std.proofs.lemmas.Str.{IsUtf8-from_ascii}
use Rattle.std.proofs.lemmas.Str.Ascii.{IsAscii-nil, IsAscii-cons}
use Rattle.std.specs.Bool.{Decides}
use Rattle.std.specs.Char.{is_digit, digit_value, is_ascii_hexdigit}
use Rattle.std.specs.Int.{w32}
use Rattle.std.specs.List.{list_all}
use Rattle.std.specs.Result.{OkIff, result_ok}
use Rattle.std.specs.Str.{IsAscii, IsUtf8}
use Rattle.std.specs.Str.Parse.{AllDigits, IsNumeral, ParsesSigned, ParsesUnsigned, digits_value, signed_digits_value, without_leading_sign, without_leading_plus}
use Rattle.value_ops.specs.Integers.{is_integer}
use Rattle.input_editing.specs.Scanning.{is_numeral, integer_of, hexadecimal}

pub Decides-digits : (radix : ℕ) (ds : List ℕ) → Decides (list_all (λ c. is_digit c radix) ds) (AllDigits radix ds)
Decides-digits radix [] = (λ _. tt, λ _. refl)
Decides-digits radix (c ∷ cs) = Decides-and (is_digit c radix) (list_all (λ d. is_digit d radix) cs) (Decides-ltb (digit_value c) radix) (Decides-digits radix cs)

pub Decides-is_numeral : (radix : ℕ) (ds : List ℕ) → Decides (is_numeral radix ds) (IsNumeral radix ds)
Decides-is_numeral radix ds = Decides-and (nat_lt 0 (length ds)) (list_all (λ c. is_digit c radix) ds) (Decides-ltb 0 (length ds)) (Decides-digits radix ds)

pub Decides-is_integer : (z : ℤ) → Decides (is_integer z) (FitsSigned w32 z)
Decides-is_integer (pos n) = (λ h. let most = leb-true n 2147483647 h in omega (arith, ints), λ h. le-leb n 2147483647 (omega (arith, ints)))
Decides-is_integer (negsuc n) = (
  λ h. let most = leb-true n 2147483647 (and_parts (nat_le n 2147483647) true h).0 in omega (arith, ints),
  λ h. and_from (nat_le n 2147483647) true (le-leb n 2147483647 (omega (arith, ints))) refl,
)

-- what a parser gives that succeeds exactly where a test passes
result_ok_decides : {T E : Type 0} (r : Result T E) (P : Type 0) (v : T) (b : Bool) → OkIff r P v → Decides b P → result_ok r ≡ cond b (Some v) None
result_ok_decides (Ok x) P v b h d = ap Some h.1 ∙ sym (cond-true b (Some v) None (d.1 h.0))
result_ok_decides (Err e) P v b h d = sym (cond-false b (Some v) None (false_from_ne_true b (λ yes. h (d.0 yes))))

-- the digits of bases up to 36 are ASCII
digit_ascii : (c : ℕ) → digit_value c < 36 → c < 128
digit_ascii c h = grind (arith, nat_tests)

digits_ascii : (radix : ℕ) (ds : List ℕ) → radix ≤ 36 → AllDigits radix ds → IsAscii ds
digits_ascii radix [] most h = IsAscii-nil
digits_ascii radix (c ∷ cs) most h = IsAscii-cons c cs (digit_ascii c (omega (arith, h.0))) (digits_ascii radix cs most h.1)

signed_ascii : (item : List ℕ) → AllDigits 10 (without_leading_sign item) → IsAscii item
signed_ascii [] h = IsAscii-nil
signed_ascii (c ∷ cs) h = by_sign (c == 45) (c == 43) refl refl
  where
    by_sign : (minus plus : Bool) → (c == 45) ≡ minus → (c == 43) ≡ plus → IsAscii (c ∷ cs)
    by_sign true plus m p = IsAscii-cons c cs (omega (arith, eqb-true c 45 m)) (digits_ascii 10 cs (omega arith) (rw m at h))
    by_sign false true m p = IsAscii-cons c cs (omega (arith, eqb-true c 43 p)) (digits_ascii 10 cs (omega arith) (rw (m, p) at h))
    by_sign false false m p = digits_ascii 10 (c ∷ cs) (omega arith) (rw (m, p) at h)

pub no_integer : (item : List ℕ) → (IsUtf8 item → ⊥) → integer_of item ≡ None
no_integer item h =
    let digits = without_leading_sign item in
    let v = signed_digits_value 10 item in
    let test = is_numeral 10 digits && is_integer v in
    cond-false test (Some v) None (false_from_ne_true test (λ yes.
    h (IsUtf8-from_ascii item (signed_ascii item ((Decides-is_numeral 10 digits).0 (and_parts (is_numeral 10 digits) (is_integer v) yes).0).1))))

pub integer_parsed : {E : Type 0} (item : List ℕ) (r : Result ℤ E) → ParsesSigned w32 10 item r → result_ok r ≡ integer_of item
integer_parsed item r h =
    let v = signed_digits_value 10 item in
    let digits = without_leading_sign item in
    result_ok_decides r (IsNumeral 10 digits × FitsSigned w32 v) v (is_numeral 10 digits && is_integer v) h
    (Decides-and (is_numeral 10 digits) (is_integer v) (Decides-is_numeral 10 digits) (Decides-is_integer v))

same_hexdigit : (c : ℕ) → is_ascii_hexdigit c ≡ is_digit c 16
same_hexdigit c = grind (arith, nat_tests)

same_hexdigits : (ds : List ℕ) → list_all is_ascii_hexdigit ds ≡ list_all (λ c. is_digit c 16) ds
same_hexdigits [] = refl
same_hexdigits (c ∷ cs) =
    ap (λ (b : Bool). b && list_all is_ascii_hexdigit cs) (same_hexdigit c)
    ∙ ap (λ (b : Bool). is_digit c 16 && b) (same_hexdigits cs)

-- bytes that are no text are no digits
pub no_digits : (ds : List ℕ) → (IsUtf8 ds → ⊥) → hexadecimal ds ≡ None
no_digits ds h =
    let test = is_numeral 16 ds && nat_le (length ds) 8 in
    cond-false test (Some (digits_value 16 ds)) None (false_from_ne_true test (λ yes.
    h (IsUtf8-from_ascii ds (digits_ascii 16 ds (omega arith) ((Decides-is_numeral 16 ds).0 (and_parts (is_numeral 16 ds) (nat_le (length ds) 8) yes).0).1))))

no_plus : (ds : List ℕ) → AllDigits 16 ds → without_leading_plus ds ≡ ds
no_plus [] h = refl
no_plus (c ∷ cs) h =
    let other : (c == 43) ≡ false = grind (arith, nat_tests, h.0) in
    ap (λ (b : Bool). drop (cond b 1 0) (c ∷ cs)) other

pub hexadecimal_parsed : {E : Type 0} (ds : List ℕ) (r : Result ℕ E) → list_all is_ascii_hexdigit ds ≡ true → length ds ≤ 8 → ParsesUnsigned 32 16 ds r → result_ok r ≡ hexadecimal ds
hexadecimal_parsed ds r digits short h =
    let all : AllDigits 16 ds = (Decides-digits 16 ds).0 (sym (same_hexdigits ds) ∙ digits) in
    let fits : digits_value 16 ds < 2 ^ 32 = omega (arith, digits_value-lt 16 ds all, pow-le-pow_right {n = 16} (omega arith) short) in
    let parsed : OkIff r (IsNumeral 16 ds × (digits_value 16 ds < 2 ^ 32)) (digits_value 16 ds) = rw (no_plus ds all) at h in
    result_ok_decides r (IsNumeral 16 ds × (digits_value 16 ds < 2 ^ 32)) (digits_value 16 ds) (is_numeral 16 ds && nat_le (length ds) 8) parsed
    (Decides-and (is_numeral 16 ds) (nat_le (length ds) 8) (Decides-is_numeral 16 ds) (λ _. fits, λ _. le-leb (length ds) 8 short))

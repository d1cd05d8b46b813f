-- The forms of items without blanks, and what tells them.
use Rattle.std.proofs.Common.{◌≡◌, ℕ, ◌<◌, ◌≤◌, ◌==◌, nat_le, ℤ, pos, Bool, true, false, not, ◌&&◌, List, [], ◌∷◌, length, codes, Some, None, refl, sym, ap, subst, ◌∙◌, arith}
use Rattle.std.proofs.lemmas.Bool.{and_parts, and_from, eqb-true, leb-true, le-leb, cond-true}
use Rattle.std.proofs.lemmas.Bool.Decides.{nat_tests}
use Rattle.std.proofs.lemmas.Option.{cond_some}
use Rattle.std.proofs.lemmas.Slice.Eq.{bytes_eq-Decides}
use Rattle.std.specs.Char.{digit_value, to_ascii_lowercase}
use Rattle.std.specs.List.{list_all}
use Rattle.std.specs.Str.{bytes_eq}
use Rattle.std.specs.Str.Parse.{AllDigits, IsNumeral, digits_value, signed_digits_value, without_leading_sign}
use Rattle.value_ops.specs.Integers.{is_integer}
use Rattle.input_editing.specs.Items.{IsSigned, bare, plus, minus, in_small_letters}
use Rattle.input_editing.specs.Scanning.{is_blank, is_numeral, integer_of, logical_of, hexadecimal, bits_of}
use Rattle.input_editing.proofs.Numerals.{Decides-is_numeral}

abbrev pub is_mark : ℕ → Bool
is_mark c = not (is_blank c)

-- a digit is no sign and no blank
digit_is_no_sign : (c : ℕ) → digit_value c < 36 → ((c == 45) ≡ false) × ((c == 43) ≡ false) × (is_mark c ≡ true)
digit_is_no_sign c h = (grind (arith, nat_tests), grind (arith, nat_tests), grind (arith, nat_tests))

pub marks_of_digits : (radix : ℕ) (ds : List ℕ) → radix ≤ 36 → AllDigits radix ds → list_all is_mark ds ≡ true
marks_of_digits radix [] most h = refl
marks_of_digits radix (c ∷ cs) most h = and_from (is_mark c) (list_all is_mark cs) (digit_is_no_sign c (omega (arith, h.0))).2 (marks_of_digits radix cs most h.1)

-- what is without a sign is as it is without its sign
unsigned_is : (c : ℕ) (cs : List ℕ) → (c == 45) ≡ false → (c == 43) ≡ false → without_leading_sign (c ∷ cs) ≡ c ∷ cs
unsigned_is c cs m p = rw (m, p) refl

unsigned_value_is : (c : ℕ) (cs : List ℕ) → (c == 45) ≡ false → (c == 43) ≡ false → signed_digits_value 10 (c ∷ cs) ≡ pos (digits_value 10 (c ∷ cs))
unsigned_value_is c cs m p = rw (m, p) refl

-- a signed number has digits without its sign, and this value
pub record HasSignedDigits (item : List ℕ) (number : ℤ) : Type 0 where
  pub digits : IsNumeral 10 (without_leading_sign item)
  pub value : signed_digits_value 10 item ≡ number

pub signed_digits : (item : List ℕ) (number : ℤ) → IsSigned item number → HasSignedDigits item number
signed_digits _ _ (bare [] h) = absurd (omega (arith, h.0))
signed_digits _ _ (bare (c ∷ cs) h) =
    let no_sign = digit_is_no_sign c (omega (arith, h.1.0)) in
    record {
      digits = subst (IsNumeral 10) (sym (unsigned_is c cs no_sign.0 no_sign.1)) h;
      value = unsigned_value_is c cs no_sign.0 no_sign.1;
    }
signed_digits _ _ (plus digits h) = record { digits = h; value = refl }
signed_digits _ _ (minus digits h) = record { digits = h; value = refl }

pub signed_from_digits : (item : List ℕ) → IsNumeral 10 (without_leading_sign item) → IsSigned item (signed_digits_value 10 item)
signed_from_digits [] h = absurd (omega (arith, h.0))
signed_from_digits (c ∷ cs) h = by_sign (c == 45) (c == 43) refl refl
  where
    by_sign : (m p : Bool) → (c == 45) ≡ m → (c == 43) ≡ p → IsSigned (c ∷ cs) (signed_digits_value 10 (c ∷ cs))
    by_sign true p m_is p_is =
        let P : ℕ → Type 0 = λ x. IsNumeral 10 (without_leading_sign (x ∷ cs)) → IsSigned (x ∷ cs) (signed_digits_value 10 (x ∷ cs)) in
        subst P (sym (eqb-true c 45 m_is)) (minus cs) h
    by_sign false true m_is p_is =
        let P : ℕ → Type 0 = λ x. IsNumeral 10 (without_leading_sign (x ∷ cs)) → IsSigned (x ∷ cs) (signed_digits_value 10 (x ∷ cs)) in
        subst P (sym (eqb-true c 43 p_is)) (plus cs) h
    by_sign false false m_is p_is =
        subst (IsSigned (c ∷ cs)) (sym (unsigned_value_is c cs m_is p_is)) (bare (c ∷ cs) (subst (IsNumeral 10) (unsigned_is c cs m_is p_is) h))

pub marks_of_signed : (item : List ℕ) (number : ℤ) → IsSigned item number → list_all is_mark item ≡ true
marks_of_signed _ _ (bare digits h) = marks_of_digits 10 digits (omega arith) h.1
marks_of_signed _ _ (plus digits h) = marks_of_digits 10 digits (omega arith) h.1
marks_of_signed _ _ (minus digits h) = marks_of_digits 10 digits (omega arith) h.1

pub integer_of_sound : (item : List ℕ) (number : ℤ) → integer_of item ≡ Some number → IsSigned item number × (is_integer number ≡ true)
integer_of_sound item number h =
    let digits = without_leading_sign item in
    let v = signed_digits_value 10 item in
    let some = cond_some (is_numeral 10 digits && is_integer v) v number h in
    let tests = and_parts (is_numeral 10 digits) (is_integer v) some.0 in
    (subst (IsSigned item) some.1 (signed_from_digits item ((Decides-is_numeral 10 digits).0 tests.0)), ap is_integer (sym some.1) ∙ tests.1)

pub integer_of_complete : (item : List ℕ) (number : ℤ) → IsSigned item number → is_integer number ≡ true → integer_of item ≡ Some number
integer_of_complete item number signed range =
    let digits = without_leading_sign item in
    let v = signed_digits_value 10 item in
    let has = signed_digits item number signed in
    let tests = and_from (is_numeral 10 digits) (is_integer v) ((Decides-is_numeral 10 digits).1 has.digits) (ap is_integer has.value ∙ range) in
    cond-true (is_numeral 10 digits && is_integer v) (Some v) None tests ∙ ap Some has.value

-- LOGICALs
same_mark : (c : ℕ) → is_mark (to_ascii_lowercase c) ≡ is_mark c
same_mark c = grind (arith, nat_tests)

marks_in_small_letters : (item : List ℕ) → list_all is_mark (in_small_letters item) ≡ list_all is_mark item
marks_in_small_letters [] = refl
marks_in_small_letters (c ∷ cs) =
    ap (λ (b : Bool). b && list_all is_mark (in_small_letters cs)) (same_mark c)
    ∙ ap (λ (b : Bool). is_mark c && b) (marks_in_small_letters cs)

pub marks_of_word : (item small : List ℕ) → in_small_letters item ≡ small → list_all is_mark small ≡ true → list_all is_mark item ≡ true
marks_of_word item small is marks = sym (marks_in_small_letters item) ∙ ap (list_all is_mark) is ∙ marks

abbrev pub IsLogical : List ℕ → Bool → Type 0
IsLogical item true = in_small_letters item ≡ codes "true"
IsLogical item false = in_small_letters item ≡ codes "false"

pub logical_of_sound : (item : List ℕ) (truth : Bool) → logical_of item ≡ Some truth → IsLogical item truth
logical_of_sound item truth h = by_tests (bytes_eq (in_small_letters item) (codes "true")) (bytes_eq (in_small_letters item) (codes "false")) refl refl truth h
  where
    by_tests : (first second : Bool) → bytes_eq (in_small_letters item) (codes "true") ≡ first → bytes_eq (in_small_letters item) (codes "false") ≡ second → (t : Bool) → logical_of item ≡ Some t → IsLogical item t
    by_tests true second y n true h = (bytes_eq-Decides (in_small_letters item) (codes "true")).0 y
    by_tests true second y n false h = let e : Some true ≡ Some false = rw y at h in cc
    by_tests false true y n true h = let e : Some false ≡ Some true = rw (y, n) at h in cc
    by_tests false true y n false h = (bytes_eq-Decides (in_small_letters item) (codes "false")).0 n
    by_tests false false y n t h = let e : None ≡ Some t = rw (y, n) at h in cc

pub logical_of_complete : (item : List ℕ) (truth : Bool) → IsLogical item truth → logical_of item ≡ Some truth
logical_of_complete item true h = let e : in_small_letters item ≡ codes "true" = h in rw e refl
logical_of_complete item false h = let e : in_small_letters item ≡ codes "false" = h in rw e refl

-- BITS
pub record IsBitsItem (item : List ℕ) (bits : ℕ) : Type 0 where
  pub digits : List ℕ
  pub cut : item ≡ 35 ∷ digits
  pub numeral : IsNumeral 16 digits
  pub short : length digits ≤ 8
  pub value : digits_value 16 digits ≡ bits

pub bits_of_sound : (item : List ℕ) (bits : ℕ) → bits_of item ≡ Some bits → IsBitsItem item bits
bits_of_sound [] bits h = cc
bits_of_sound (c ∷ digits) bits h = by_sharp (c == 35) refl
  where
    by_sharp : (b : Bool) → (c == 35) ≡ b → IsBitsItem (c ∷ digits) bits
    by_sharp false is = let e : None ≡ Some bits = rw is at h in cc
    by_sharp true is =
        let found : hexadecimal digits ≡ Some bits = rw is at h in
        let some = cond_some (is_numeral 16 digits && nat_le (length digits) 8) (digits_value 16 digits) bits found in
        let tests = and_parts (is_numeral 16 digits) (nat_le (length digits) 8) some.0 in
        record {
          digits = digits;
          cut = ap (λ (x : ℕ). x ∷ digits) (eqb-true c 35 is);
          numeral = (Decides-is_numeral 16 digits).0 tests.0;
          short = leb-true (length digits) 8 tests.1;
          value = some.1;
        }

pub bits_of_complete : (digits : List ℕ) → IsNumeral 16 digits → length digits ≤ 8 → bits_of (35 ∷ digits) ≡ Some (digits_value 16 digits)
bits_of_complete digits numeral short =
    cond-true (is_numeral 16 digits && nat_le (length digits) 8) (Some (digits_value 16 digits)) None
    (and_from (is_numeral 16 digits) (nat_le (length digits) 8) ((Decides-is_numeral 16 digits).1 numeral) (le-leb (length digits) 8 short))

-- Texts made of texts.
use Rattle.std.proofs.Common.{◌≡◌, ℕ, zero, suc, ◌+◌, ◌-◌, ◌/◌, ◌%◌, ◌^◌, ◌<◌, ◌≤◌, ℤ, pos, negsuc, Bool, true, false, ◌&&◌, ◌==◌, nat_le, nat_lt, if◌then◌else◌, List, [], ◌∷◌, ◌++◌, map, length, take, drop, All, codes, decimal, Option, Some, None, Result, Ok, Err, IfSome, slice_get, refl, arith}
use Rattle.std.specs.Prelude.{⊤}
use Rattle.std.specs.List.{list_all}
use Rattle.std.specs.Fmt.{digits, digits_onto, digit_glyph, signed_decimal}
use Rattle.std.proofs.Math.Nat.{mod-lt}
use Rattle.std.proofs.lemmas.List.Elements.{All-nil, All-cons, All-head, All-tail, All-append, All-take, All-drop, All-replicate, All-map, All-weaker}
use Rattle.std.proofs.lemmas.List.Sums.{AllPass-from_list_all}
use Rattle.std.proofs.lemmas.Bool.Decides.{nat_tests}
use Rattle.short_text.specs.Blanks.{blanks, right, trimmed}
use Rattle.line_text.specs.Texts.{hex_digit, bits_text, logical_text}
use Rattle.value_ops.specs.declared.faults.Fault.{Fault}
use Rattle.value_ops.specs.declared.faults.Fault.TheVariants.{CodeOutsideRange}
use Rattle.value_ops.specs.Strings.{filled, part, with_part, character}
use Rattle.printed_lines.specs.Texts.{IsPrintable, IsText, IsVisible, IsWord}

-- of two, whichever it is
pub either : {A : Type 0} (P : A → Type 0) (b : Bool) (x y : A) → P x → P y → P (if b then x else y)
either P true x y p q = p
either P false x y p q = q

-- what is found in a list
pub found : {A : Type 0} (P : A → Type 0) (xs : List A) (k : ℕ) → All P xs → IfSome (slice_get xs k) P
found P [] k h = tt
found P (x ∷ xs) zero h = All-head P x xs h
found P (x ∷ xs) (suc k) h = found P xs k (All-tail P x xs h)

pub text_nil : IsText []
text_nil = record { each = All-nil IsPrintable }

pub text_cons : {c : ℕ} {s : List ℕ} → IsPrintable c → IsText s → IsText (c ∷ s)
text_cons {c} {s} p h = record { each = All-cons IsPrintable c s p h.each }

pub text_append : {a b : List ℕ} → IsText a → IsText b → IsText (a ++ b)
text_append {a} {b} h k = record { each = All-append IsPrintable a b h.each k.each }

pub text_take : {s : List ℕ} (n : ℕ) → IsText s → IsText (take n s)
text_take {s} n h = record { each = All-take IsPrintable n s h.each }

pub text_drop : {s : List ℕ} (n : ℕ) → IsText s → IsText (drop n s)
text_drop {s} n h = record { each = All-drop IsPrintable n s h.each }

pub text_blanks : (n : ℕ) → IsText (blanks n)
text_blanks n = record { each = All-replicate IsPrintable n 32 (omega arith, omega arith) }

pub text_trimmed : {s : List ℕ} → IsText s → IsText (trimmed s)
text_trimmed h = text_take _ h

pub text_right : {s : List ℕ} (n : ℕ) → IsText s → IsText (right n s)
text_right {s} n h = text_append (text_blanks (n - length s)) h

pub text_filled : {s : List ℕ} (n : ℕ) → IsText s → IsText (filled n s)
text_filled {s} n h = text_append h (text_blanks (n - length s))

pub text_of_word : {s : List ℕ} → IsWord s → IsText s
text_of_word {s} h = record { each = All-weaker IsVisible IsPrintable (λ c p. (omega (arith, p.0), p.1)) s h.each }

-- ---- words that are written down

abbrev pub is_printable : ℕ → Bool
is_printable c = nat_le 32 c && nat_le c 126

printable : (c : ℕ) → is_printable c ≡ true → IsPrintable c
printable c h = (grind (arith, nat_tests), grind (arith, nat_tests))

pub text_of : (s : List ℕ) → list_all is_printable s ≡ true → IsText s
text_of s h = record { each = λ k d l. printable _ (AllPass-from_list_all is_printable s h k d l) }

-- ---- numbers

glyph : (b : Bool) (d : ℕ) → d < 10 → IsPrintable (if b then 48 + d else 87 + d)
glyph true d h = (omega arith, omega arith)
glyph false d h = (omega arith, omega arith)

digits_text : (k n : ℕ) (acc : List ℕ) → IsText acc → IsText (digits_onto k 10 false n acc)
digits_text zero n acc h = h
digits_text (suc k) n acc h =
    let m : IsText (digit_glyph false (n % 10) ∷ acc) = text_cons (glyph (nat_lt (n % 10) 10) (n % 10) (mod-lt n (omega arith))) h in
    either IsText (n / 10 == 0) _ _ m (digits_text k (n / 10) _ m)

pub text_decimal : (n : ℕ) → IsText (decimal n)
unfolding digits
text_decimal n = digits_text 64 n [] text_nil

pub text_signed : (n : ℤ) → IsText (signed_decimal n)
text_signed (pos n) = text_decimal n
text_signed (negsuc n) = text_cons (omega arith, omega arith) (text_decimal (suc n))

hexadecimal : (b : Bool) (d : ℕ) → d < 16 → IsPrintable (if b then 48 + d else 55 + d)
hexadecimal true d h = (omega arith, omega arith)
hexadecimal false d h = (omega arith, omega arith)

pub text_bits : (n : ℕ) → IsText (bits_text n)
text_bits n = record { each = All-map IsPrintable (λ place. hex_digit (n / 16 ^ place % 16)) (7 ∷ 6 ∷ 5 ∷ 4 ∷ 3 ∷ 2 ∷ 1 ∷ 0 ∷ []) (λ k d l. hexadecimal _ _ (mod-lt _ (omega arith))) }

pub text_truth : (b : Bool) → IsText (logical_text b)
text_truth true = text_of (codes "TRUE") refl
text_truth false = text_of (codes "FALSE") refl

-- ---- strings

-- a string, where there is one
abbrev pub ResultHolds : Result (List ℕ) Fault → Type 0
ResultHolds (Ok s) = IsText s
ResultHolds (Err f) = ⊤

pub text_part : {s : List ℕ} (at : ℤ) (n : ℕ) → IsText s → ResultHolds (part s at n)
text_part {s} (pos at) n h = either ResultHolds (nat_le (at + n) (length s)) _ _ (text_take n (text_drop at h)) tt
text_part (negsuc at) n h = tt

pub text_with_part : {s t : List ℕ} (at : ℤ) (n : ℕ) → IsText s → IsText t → ResultHolds (with_part s at n t)
text_with_part {s} {t} (pos at) n h k = either ResultHolds (nat_le (at + n) (length s)) _ _ (text_append (text_append (text_take at h) (text_filled n k)) (text_drop (at + n) h)) tt
text_with_part (negsuc at) n h k = tt

pub text_character : (code : ℤ) → ResultHolds (character code)
text_character (pos code) = go (is_printable code) (λ e. printable code e)
  where
    go : (b : Bool) → (b ≡ true → IsPrintable code) → ResultHolds (if b then Ok (code ∷ []) else Err CodeOutsideRange)
    go true p = text_cons (p refl) text_nil
    go false p = tt
text_character (negsuc code) = tt

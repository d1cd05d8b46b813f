-- Bytes parted at a byte, and blanks round a text.
use Rattle.std.proofs.Common.{◌≡◌, ℕ, zero, suc, ◌+◌, ◌-◌, ◌<◌, ◌≤◌, ◌==◌, Bool, true, false, List, [], ◌∷◌, ◌++◌, Some, None, length, take, drop, get_or, reverse, refl, sym, ap, ◌∙◌, subst, arith, cond, nat_lt}
use Rattle.std.proofs.lemmas.Bool.Decides.{nat_tests, Decides-eqb, Decides-ltb}
use Rattle.std.proofs.lemmas.List.{take-append-drop, take_at, drop_at, get_or_at, get_or_append_left, get_or-append_right, get_or-replicate, get_or-take, length-append, length-take, length-replicate, length-reverse, reverse-append, reverse-reverse, same_lists, get_or-reverse}
use Rattle.std.proofs.lemmas.List.Folds.{length-prefix_len}
use Rattle.std.proofs.lemmas.List.Splits.{slice_split_none, slice_split_at, length-slice_split}
use Rattle.std.proofs.lemmas.List.Sums.{position_or_len_is, AllPass-from_list_all, prefix_len_passes, suffix_len_is, split_at_first, passes_at_first, fails_before_first}
use Rattle.std.proofs.Math.Seq.{drop-append-add}
use Rattle.std.specs.List.{All, list_all, onto_first, position_or_len, prefix_len, suffix_len}
use Rattle.std.specs.Option.{option_map}
use Rattle.deck_reader.specs.Forms.{parted, behind_blanks, stripped}
use Rattle.deck_reader.specs.JobCards.{fields}
use Rattle.short_text.specs.Blanks.{trimmed, blanks}

-- none of the bytes is this one
abbrev pub Lacks : ℕ → List ℕ → Type 0
Lacks t bytes = All (λ b. (b == t) ≡ false) bytes

-- a byte that passes a test isn't one that fails it
differs : (q : ℕ → Bool) (t b : ℕ) → q t ≡ false → q b ≡ true → (r : Bool) → (b == t) ≡ r → r ≡ false
differs q t b fails passes false e = refl
differs q t b fails passes true e = let same : q b ≡ q t = ap q ((Decides-eqb b t).0 e) in cc

pub Lacks-from_all : (q : ℕ → Bool) (t : ℕ) (bytes : List ℕ) → q t ≡ false → list_all q bytes ≡ true → Lacks t bytes
Lacks-from_all q t bytes fails all k d h = differs q t (get_or bytes k d) fails (AllPass-from_list_all q bytes all k d h) (get_or bytes k d == t) refl

pub Lacks-blanks : (t n : ℕ) → (32 == t) ≡ false → Lacks t (blanks n)
Lacks-blanks t n other k d h =
    ap (λ (b : ℕ). b == t) (get_or-replicate n k 32 d (omega (arith, length-replicate {A = ℕ} n 32))) ∙ other

found_at : (r : Bool) (at : ℕ) (bytes before behind : List ℕ) → option_map {U = List ℕ × List ℕ} (λ at. (take at bytes, drop (at + 1) bytes)) (cond r (Some at) None) ≡ Some (before, behind)
    → (r ≡ true) × (take at bytes ≡ before) × (drop (at + 1) bytes ≡ behind)
found_at false at bytes before behind h = cc
found_at true at bytes before behind h =
    let pairs : (take at bytes, drop (at + 1) bytes) ≡ (before, behind) = cc in
    (refl, ap (λ (p : List ℕ × List ℕ). p.0) pairs, ap (λ (p : List ℕ × List ℕ). p.1) pairs)

missing_at : (r : Bool) (at : ℕ) (bytes : List ℕ) → option_map {U = List ℕ × List ℕ} (λ at. (take at bytes, drop (at + 1) bytes)) (cond r (Some at) None) ≡ None → r ≡ false
missing_at false at bytes h = refl
missing_at true at bytes h = cc

-- where bytes are parted, they are their parts with this byte between them, and the first part lacks it
pub from_parted : (t : ℕ) (bytes before behind : List ℕ) → parted t bytes ≡ Some (before, behind) → (bytes ≡ before ++ t ∷ behind) × Lacks t before
from_parted t bytes before behind h =
    let p : ℕ → Bool = λ b. b == t in
    let at = position_or_len p bytes in
    let found = found_at (nat_lt at (length bytes)) at bytes before behind h in
    let within : at < length bytes = (Decides-ltb at (length bytes)).0 found.0 in
    let is : get_or bytes at 0 ≡ t = (Decides-eqb (get_or bytes at 0) t).0 (passes_at_first p bytes 0 within) in
    let lacks : Lacks t (take at bytes) = λ k d short.
    let inside : k < at = omega (arith, length-take at bytes) in
    ap p (get_or-take at bytes k d inside) ∙ fails_before_first p bytes k d inside in (
      split_at_first p bytes 0 within
          ∙ ap (λ (r : List ℕ). r ++ get_or bytes at 0 ∷ drop (at + 1) bytes) found.1
          ∙ ap (λ (r : List ℕ). before ++ get_or bytes at 0 ∷ r) found.2
          ∙ ap (λ (r : ℕ). before ++ r ∷ behind) is,
      subst (Lacks t) found.1 lacks,
    )

pub from_not_parted : (t : ℕ) (bytes : List ℕ) → parted t bytes ≡ None → Lacks t bytes
from_not_parted t bytes h k d short =
    let p : ℕ → Bool = λ b. b == t in
    let at = position_or_len p bytes in
    let past : nat_lt at (length bytes) ≡ false = missing_at (nat_lt at (length bytes)) at bytes h in
    let over : length bytes ≤ at = grind (arith, nat_tests) in
    fails_before_first p bytes k d (omega arith)

take_lt : (m n : ℕ) (bytes : List ℕ) → m < n → option_map {U = List ℕ × List ℕ} (λ at. (take at bytes, drop (at + 1) bytes)) (cond (nat_lt m n) (Some m) None) ≡ Some (take m bytes, drop (m + 1) bytes)
take_lt m n bytes h =
    ap (λ (b : Bool). option_map {U = List ℕ × List ℕ} (λ at. (take at bytes, drop (at + 1) bytes)) (cond b (Some m) None)) ((Decides-ltb m n).1 h)

-- parts with a byte between them that the first lacks are parted there
pub parted_is : (t : ℕ) (before behind : List ℕ) → Lacks t before → parted t (before ++ t ∷ behind) ≡ Some (before, behind)
parted_is t before behind lacks =
    let p : ℕ → Bool = λ b. b == t in
    let bytes = before ++ t ∷ behind in
    let long : length before < length bytes = omega (arith, length-append before (t ∷ behind)) in
    let at : position_or_len p bytes ≡ length before =
    position_or_len_is p bytes (length before) 0 (omega arith)
    (λ k short. ap p (get_or_append_left before (t ∷ behind) 0 k short) ∙ lacks k 0 short)
    (λ _. ap p (get_or_at before t behind 0 (length before) refl) ∙ (Decides-eqb t t).1 refl) in
    ap (λ (n : ℕ). option_map {U = List ℕ × List ℕ} (λ at. (take at bytes, drop (at + 1) bytes)) (cond (nat_lt n (length bytes)) (Some n) None)) at
    ∙ take_lt (length before) (length bytes) bytes long
    ∙ ap (λ (r : List ℕ). Some (r, drop (length before + 1) bytes)) (take_at before (t ∷ behind) (length before) refl)
    ∙ ap (λ (r : List ℕ). Some (before, r)) (drop-append-add before (t ∷ behind) 1)

pub fields_of_one : (bytes : List ℕ) → Lacks 44 bytes → fields bytes ≡ bytes ∷ []
fields_of_one bytes lacks = slice_split_none (λ b. b == 44) bytes lacks

pub fields_of_more : (first more : List ℕ) → Lacks 44 first → fields (first ++ 44 ∷ more) ≡ first ∷ fields more
fields_of_more first more lacks = slice_split_at (λ b. b == 44) first 44 more lacks refl

pub fields-not_parted : (bytes : List ℕ) → parted 44 bytes ≡ None → fields bytes ≡ bytes ∷ []
fields-not_parted bytes h = fields_of_one bytes (from_not_parted 44 bytes h)

pub fields-parted : (bytes first more : List ℕ) → parted 44 bytes ≡ Some (first, more) → fields bytes ≡ first ∷ fields more
fields-parted bytes first more h =
    let found = from_parted 44 bytes first more h in
    ap fields found.0 ∙ fields_of_more first more found.1

onto_first-append : (b : ℕ) (first second : List (List ℕ)) → 0 < length first → onto_first b (first ++ second) ≡ onto_first b first ++ second
onto_first-append b [] second some = absurd (omega arith)
onto_first-append b (f ∷ first) second some = refl

fields_onto : (byte : Bool) (b : ℕ) (first second : List (List ℕ)) → 0 < length first
    → cond byte ([] ∷ (first ++ second)) (onto_first b (first ++ second)) ≡ cond byte ([] ∷ first) (onto_first b first) ++ second
fields_onto true b first second some = refl
fields_onto false b first second some = onto_first-append b first second some

-- the fields before a comma, and those behind it
pub fields-joined : (first more : List ℕ) → fields (first ++ 44 ∷ more) ≡ fields first ++ fields more
fields-joined [] more = refl
fields-joined (b ∷ first) more =
    ap (λ (fs : List (List ℕ)). cond (b == 44) ([] ∷ fs) (onto_first b fs)) (fields-joined first more)
    ∙ fields_onto (b == 44) b (fields first) (fields more) (omega (arith, length-slice_split (λ b. b == 44) first))

-- bytes are some blanks and what stands behind them
pub with_blanks_in_front : (bytes : List ℕ) → bytes ≡ blanks (prefix_len (λ b. b == 32) bytes) ++ behind_blanks bytes
with_blanks_in_front bytes =
    let p : ℕ → Bool = λ b. b == 32 in
    let n = prefix_len p bytes in
    let len : length (take n bytes) ≡ n = length-prefix_len p bytes in
    let same : take n bytes ≡ blanks n =
    same_lists (take n bytes) (blanks n) (len ∙ sym (length-replicate {A = ℕ} n 32))
    (λ k d short.
    let inside : k < n = omega arith in
    get_or-take n bytes k d inside ∙ (Decides-eqb (get_or bytes k d) 32).0 (prefix_len_passes p bytes k d inside) ∙ sym (get_or-replicate n k 32 d inside)) in
    sym (take-append-drop n bytes) ∙ ap (λ (r : List ℕ). r ++ drop n bytes) same

reverse-blanks : (n : ℕ) → reverse (blanks n) ≡ blanks n
reverse-blanks n =
    same_lists (reverse (blanks n)) (blanks n) (length-reverse (blanks n))
    (λ k d short.
    let inside : k < n = omega (arith, length-reverse (blanks n), length-replicate {A = ℕ} n 32) in
    get_or-reverse (blanks n) k d (omega (arith, length-replicate {A = ℕ} n 32))
    ∙ get_or-replicate n (length (blanks n) - 1 - k) 32 d (omega (arith, length-replicate {A = ℕ} n 32))
    ∙ sym (get_or-replicate n k 32 d inside))

-- bytes are the bytes without the blanks at their end, and these blanks
pub with_blanks_behind : (bytes : List ℕ) → bytes ≡ trimmed bytes ++ blanks (suffix_len (λ b. b == 32) bytes)
with_blanks_behind bytes =
    let n = suffix_len (λ b. b == 32) bytes in
    let r = behind_blanks (reverse bytes) in
    let is : bytes ≡ reverse r ++ blanks n =
    sym (reverse-reverse bytes) ∙ ap reverse (with_blanks_in_front (reverse bytes)) ∙ reverse-append (blanks n) r ∙ ap (λ (b : List ℕ). reverse r ++ b) (reverse-blanks n) in
    let len : length bytes ≡ length (reverse r) + n = ap length is ∙ length-append (reverse r) (blanks n) ∙ ap (λ (m : ℕ). length (reverse r) + m) (length-replicate {A = ℕ} n 32) in
    let front : trimmed bytes ≡ reverse r = ap (take (length bytes - n)) is ∙ take_at (reverse r) (blanks n) (length bytes - n) (omega arith) in
    is ∙ ap (λ (b : List ℕ). b ++ blanks n) (sym front)

prefix_of_blanks : (n c : ℕ) (cs : List ℕ) → (c == 32) ≡ false → prefix_len (λ b. b == 32) (blanks n ++ c ∷ cs) ≡ n
prefix_of_blanks zero c cs other = ap (λ (b : Bool). cond b (1 + prefix_len (λ b. b == 32) cs) 0) other
prefix_of_blanks (suc n) c cs other = omega (arith, prefix_of_blanks n c cs other)

-- blanks in front of another byte are dropped
pub behind_blanks_is : (n c : ℕ) (cs : List ℕ) → (c == 32) ≡ false → behind_blanks (blanks n ++ c ∷ cs) ≡ c ∷ cs
behind_blanks_is n c cs other = drop_at (blanks n) (c ∷ cs) (prefix_len (λ b. b == 32) (blanks n ++ c ∷ cs)) (length-replicate {A = ℕ} n 32 ∙ sym (prefix_of_blanks n c cs other))

-- blanks behind a text with none are dropped
pub trimmed_is : (n : ℕ) (text : List ℕ) → Lacks 32 text → trimmed (text ++ blanks n) ≡ text
trimmed_is n text lacks =
    let p : ℕ → Bool = λ b. b == 32 in
    let bytes = text ++ blanks n in
    let len : length bytes ≡ length text + n = length-append text (blanks n) ∙ ap (λ (m : ℕ). length text + m) (length-replicate {A = ℕ} n 32) in
    let last : suffix_len p bytes ≡ length bytes - length text =
    suffix_len_is p bytes (length text) 0 (omega arith)
    (λ k from short. ap p (get_or-append_right text (blanks n) (length text) k 0 refl from ∙ get_or-replicate n (k - length text) 32 0 (omega arith)))
    (λ some. ap p (get_or_append_left text (blanks n) 0 (length text - 1) (omega arith)) ∙ lacks (length text - 1) 0 (omega arith)) in
    take_at text (blanks n) (length bytes - suffix_len p bytes) (omega arith)

-- blanks round a text with none are dropped
pub stripped_is : (n m : ℕ) (text : List ℕ) → 0 < length text → Lacks 32 text → stripped (blanks n ++ (text ++ blanks m)) ≡ text
stripped_is n m [] some lacks = absurd (omega arith)
stripped_is n m (c ∷ cs) some lacks = ap trimmed (behind_blanks_is n c (cs ++ blanks m) (lacks 0 0 (omega arith))) ∙ trimmed_is m (c ∷ cs) lacks

-- bytes are what is left of them without the blanks on either side, and these blanks
pub with_blanks_round : (bytes : List ℕ) → bytes ≡ blanks (prefix_len (λ b. b == 32) bytes) ++ (stripped bytes ++ blanks (suffix_len (λ b. b == 32) (behind_blanks bytes)))
with_blanks_round bytes =
    with_blanks_in_front bytes ∙ ap (λ (r : List ℕ). blanks (prefix_len (λ b. b == 32) bytes) ++ r) (with_blanks_behind (behind_blanks bytes))

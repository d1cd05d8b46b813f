-- The numbers of sets.
use Rattle.std.proofs.Common.{◌≡◌, ℕ, suc, ◌+◌, ◌<◌, ◌≤◌, Bool, true, false, cond, nat_lt, List, [], ◌∷◌, ◌++◌, length, get_or, refl, ap, ◌∙◌, arith}
use Rattle.std.proofs.lemmas.Bool.Decides.{nat_tests}
use Rattle.std.proofs.lemmas.List.{get_or_append_left, get_or_push}
use Rattle.value_ops.specs.declared.values.ClassId.{ClassId}
use Rattle.value_ops.specs.declared.values.SetId.{SetId}
use Rattle.record_classes.specs.Classes.{Classes, is_same_set, number_of, set_of}
use Rattle.record_classes.specs.Laws.{SetsAreNumbered}
use Rattle.record_classes.proofs.SameSets.{same-refl, same-sym, same-trans, same-congr}

pub number_of-same : (sets : List (List ClassId)) (a b : List ClassId) → is_same_set a b ≡ true → number_of sets a ≡ number_of sets b
number_of-same [] a b h = refl
number_of-same (s ∷ sets) a b h =
    ap (λ (t : Bool). cond t 0 (suc (number_of sets a))) (same-congr s a b h)
    ∙ ap (λ (n : ℕ). cond (is_same_set s b) 0 (suc n)) (number_of-same sets a b h)

-- one step of `number_of`
found_at : (same : Bool) (s a : List ClassId) (sets : List (List ClassId)) (n : ℕ) → is_same_set s a ≡ same → (n < length sets → is_same_set (get_or sets n []) a ≡ true)
    → cond same 0 (suc n) < suc (length sets) → is_same_set (get_or (s ∷ sets) (cond same 0 (suc n)) []) a ≡ true
found_at true s a sets n is more h = is
found_at false s a sets n is more h = more (omega arith)

-- the set at a number is equal
pub at_number : (sets : List (List ClassId)) (a : List ClassId) → number_of sets a < length sets → is_same_set (get_or sets (number_of sets a) []) a ≡ true
at_number [] a h = absurd (omega arith)
at_number (s ∷ sets) a h = found_at (is_same_set s a) s a sets (number_of sets a) refl (at_number sets a) h

le_step : (same : Bool) (n m : ℕ) → n ≤ m → cond same 0 (suc n) ≤ suc m
le_step true n m h = omega arith
le_step false n m h = omega arith

pub number_of-le : (sets : List (List ClassId)) (a : List ClassId) → number_of sets a ≤ length sets
number_of-le [] a = omega arith
number_of-le (s ∷ sets) a = le_step (is_same_set s a) (number_of sets a) (length sets) (number_of-le sets a)

kept_step : (same : Bool) (n m k : ℕ) → (n < m → k ≡ n) → cond same 0 (suc n) < suc m → cond same 0 (suc k) ≡ cond same 0 (suc n)
kept_step true n m k f h = refl
kept_step false n m k f h = ap suc (f (omega arith))

-- a set that is there keeps its number
pub number_of-kept : (sets : List (List ClassId)) (b a : List ClassId) → number_of sets a < length sets → number_of (sets ++ b ∷ []) a ≡ number_of sets a
number_of-kept [] b a h = absurd (omega arith)
number_of-kept (s ∷ sets) b a h = kept_step (is_same_set s a) (number_of sets a) (length sets) (number_of (sets ++ b ∷ []) a) (number_of-kept sets b a) h

new_step : (same : Bool) (n m k more : ℕ) → (m ≤ n → k ≡ m + more) → suc m ≤ cond same 0 (suc n) → cond same 0 (suc k) ≡ suc m + more
new_step true n m k more f h = absurd (omega arith)
new_step false n m k more f h = let e : k ≡ m + more = f (omega arith) in omega arith

-- a set that is not there gets the next number, or none still
pub number_of-new : (sets : List (List ClassId)) (b a : List ClassId) → length sets ≤ number_of sets a → number_of (sets ++ b ∷ []) a ≡ length sets + cond (is_same_set b a) 0 1
number_of-new [] b a h = omega arith
number_of-new (s ∷ sets) b a h = new_step (is_same_set s a) (number_of sets a) (length sets) (number_of (sets ++ b ∷ []) a) (cond (is_same_set b a) 0 1) (number_of-new sets b a) h

-- a table with a set more, where none is equal or one is
abbrev with_set_by : Bool → Classes → List ClassId → Classes
with_set_by there t a = cond there t (record t { sets = t.sets ++ a ∷ [] })

added_by : (there : Bool) (t : Classes) (a : List ClassId) (s : SetId) → nat_lt (number_of t.sets a) (length t.sets) ≡ there → s.0 ≡ number_of t.sets a → is_same_set (set_of (with_set_by there t a) s) a ≡ true
added_by true t a s is e =
    let found : number_of t.sets a < length t.sets = grind (arith, nat_tests) in
    ap (λ (n : ℕ). is_same_set (get_or t.sets n []) a) e ∙ at_number t.sets a found
added_by false t a s is e =
    let past : length t.sets ≤ number_of t.sets a = grind (arith, nat_tests) in
    let last : length t.sets ≡ s.0 = omega (arith, number_of-le t.sets a) in
    ap (λ (set : List ClassId). is_same_set set a) (get_or_push t.sets a [] s.0 last) ∙ same-refl a

kept_by : (there : Bool) (t : Classes) (a : List ClassId) (s : SetId) → s.0 < length t.sets → set_of (with_set_by there t a) s ≡ set_of t s
kept_by true t a s h = refl
kept_by false t a s h = get_or_append_left t.sets (a ∷ []) [] s.0 h

numbers_kept_by : (there : Bool) (t : Classes) (a b : List ClassId) → number_of t.sets a < length t.sets → number_of (with_set_by there t b).sets a ≡ number_of t.sets a
numbers_kept_by true t a b h = refl
numbers_kept_by false t a b h = number_of-kept t.sets b a h

only_equal : (sets : List (List ClassId)) (a b : List ClassId) → number_of sets a < length sets → number_of sets a ≡ number_of sets b → is_same_set a b ≡ true
only_equal sets a b h e =
    let found : number_of sets b < length sets = omega (arith, e) in
    let set = get_or sets (number_of sets a) [] in
    same-trans a set b
    (same-sym set a (at_number sets a h))
    (ap (λ (n : ℕ). is_same_set (get_or sets n []) b) e ∙ at_number sets b found)

pub sets_are_numbered : SetsAreNumbered
sets_are_numbered = record {
  equal = λ t a b h. number_of-same t.sets a b h;
  only_equal = λ t a b h e. only_equal t.sets a b h e;
  added = λ t a s e. added_by (nat_lt (number_of t.sets a) (length t.sets)) t a s refl e;
  kept = λ t a s h. kept_by (nat_lt (number_of t.sets a) (length t.sets)) t a s h;
  numbers_kept = λ t a b h. numbers_kept_by (nat_lt (number_of t.sets b) (length t.sets)) t a b h;
}

-- The numbers that a table knows, by the members of its sets.
use Rattle.std.proofs.Common.{◌≡◌, ℕ, ◌+◌, ◌<◌, ◌≤◌, Bool, true, false, cond, nat_lt, List, [], ◌∷◌, ◌++◌, length, Option, Some, None, Result, Ok, Err, Vec, Global, refl, sym, ap, ◌∙◌, arith}
use Rattle.std.proofs.lemmas.Bool.{cond-true, cond-false, false_from_ne_true}
use Rattle.std.proofs.lemmas.Bool.Decides.{nat_tests}
use Rattle.std.proofs.lemmas.Cmp.{tied_itself, lists_total}
use Rattle.std.proofs.lemmas.List.{length_push}
use Rattle.std.proofs.lemmas.Option.{same_Some}
use Rattle.std.specs.BTreeMap.{BTreeMap, get, is_at}
use Rattle.std.specs.Cmp.Lexicographic.{slice_cmp}
use Rattle.std.specs.Ordering.{is_eq, ordering_then}
use Rattle.std.specs.Result.{is_err, OnOk}
use Rattle.std.specs.declared.cmp.Ordering.{Ordering}
use Rattle.std.specs.declared.cmp.Ordering.TheVariants.{Less, Equal, Greater}
use Rattle.value_ops.specs.declared.values.ClassId.{ClassId}
use Rattle.value_ops.specs.declared.values.SetId.{SetId}
use Rattle.record_classes.specs.Classes.{Classes, is_same_set, number_of, with_set}
use Rattle.record_classes.specs.Held.{class_cmp, members_cmp, Rising, known_number, Numbers}
use Rattle.record_classes.proofs.Membership.{class_cmp-total, class_cmp-exact, same_members}
use Rattle.record_classes.proofs.SameSets.{same-sym, same-trans}
use Rattle.record_classes.proofs.SetNumbers.{number_of-same, number_of-le, number_of-kept, number_of-new}

known-there : (sets : List (List ClassId)) (a : List ClassId) → number_of sets a < length sets → known_number sets a ≡ Some (record { 0 = number_of sets a })
known-there sets a h = cond-true (nat_lt (number_of sets a) (length sets)) _ _ (grind (arith, nat_tests))

known-none : (sets : List (List ClassId)) (a : List ClassId) → length sets ≤ number_of sets a → known_number sets a ≡ None
known-none sets a h = cond-false (nat_lt (number_of sets a) (length sets)) _ _ (grind (arith, nat_tests))

-- the set that is added gets its number
known-last : (sets : List (List ClassId)) (b a : List ClassId) → length sets ≤ number_of sets a → is_same_set b a ≡ true → known_number (sets ++ b ∷ []) a ≡ Some (record { 0 = length sets })
known-last sets b a past same =
    let more = number_of-new sets b a past ∙ ap (λ (t : Bool). length sets + cond t 0 1) same in
    let n : number_of (sets ++ b ∷ []) a ≡ length sets = omega (arith, more) in
    known-there (sets ++ b ∷ []) a (omega (arith, length_push sets b))
    ∙ ap {B = Option SetId} (λ (k : ℕ). Some (record { 0 = k })) n

known_by : (there : Bool) (sets : List (List ClassId)) (b a : List ClassId) → nat_lt (number_of sets a) (length sets) ≡ there → is_same_set b a ≡ false → known_number (sets ++ b ∷ []) a ≡ known_number sets a
known_by true sets b a is other =
    let there : number_of sets a < length sets = grind (arith, nat_tests) in
    let n = number_of-kept sets b a there in
    known-there (sets ++ b ∷ []) a (omega (arith, length_push sets b))
    ∙ ap {B = Option SetId} (λ (k : ℕ). Some (record { 0 = k })) n
    ∙ sym (known-there sets a there)
known_by false sets b a is other =
    let past : length sets ≤ number_of sets a = grind (arith, nat_tests) in
    let more = number_of-new sets b a past ∙ ap (λ (t : Bool). length sets + cond t 0 1) other in
    known-none (sets ++ b ∷ []) a (omega (arith, length_push sets b))
    ∙ sym (known-none sets a past)

-- the others keep theirs
known-kept : (sets : List (List ClassId)) (b a : List ClassId) → is_same_set b a ≡ false → known_number (sets ++ b ∷ []) a ≡ known_number sets a
known-kept sets b a other = known_by (nat_lt (number_of sets a) (length sets)) sets b a refl other

both_equal : (o p : Ordering) → ordering_then o p ≡ Equal → (o ≡ Equal) × (p ≡ Equal)
both_equal Less p h = cc
both_equal Equal p h = (refl, h)
both_equal Greater p h = cc

equal_from : (o : Ordering) → is_eq o ≡ true → o ≡ Equal
equal_from Less h = cc
equal_from Equal h = refl
equal_from Greater h = cc

same_lists : (a b : List ClassId) → slice_cmp class_cmp a b ≡ Equal → a ≡ b
same_lists [] [] h = refl
same_lists [] (d ∷ b) h = cc
same_lists (c ∷ a) [] h = cc
same_lists (c ∷ a) (d ∷ b) h =
    let both = both_equal (class_cmp c d) (slice_cmp class_cmp a b) h in
    ap (λ (e : ClassId). e ∷ a) (class_cmp-exact c d both.0) ∙ ap (λ (xs : List ClassId). d ∷ xs) (same_lists a b both.1)

-- one step of `Numbers`
number_at : (at : Bool) (sets : List (List ClassId)) (set : List ClassId) (members q : Vec ClassId Global) (n : SetId) → is_at (members_cmp members) q ≡ at
    → Rising members.items → Rising q.items → is_same_set members.items set ≡ true → length sets ≤ number_of sets members.items → n.0 ≡ length sets
    → cond at (Some n) (known_number sets q.items) ≡ known_number (sets ++ set ∷ []) q.items
number_at true sets set members q n at up up' same past number =
    let is : members.items ≡ q.items = same_lists members.items q.items (equal_from (members_cmp members q) at) in
    ap {B = Option SetId} (λ (k : ℕ). Some (record { 0 = k })) number
    ∙ sym (known-last sets set members.items past (same-sym members.items set same))
    ∙ ap (known_number (sets ++ set ∷ [])) is
number_at false sets set members q n at up up' same past number =
    let other : is_same_set set q.items ≡ false =
    false_from_ne_true (is_same_set set q.items) (λ h.
    let is : members.items ≡ q.items = same_members members.items q.items up up' (same-trans members.items set q.items same h) in
    let e = ap (λ (xs : List ClassId). is_eq (slice_cmp class_cmp members.items xs)) is in
    let k = ap is_eq (tied_itself (lists_total class_cmp-total) members.items) in
    let no : true ≡ false = sym k ∙ e ∙ at in
    cc) in
    sym (known-kept sets set q.items other)

past_by : (there : Bool) (sets : List (List ClassId)) (a : List ClassId) → nat_lt (number_of sets a) (length sets) ≡ there → known_number sets a ≡ None → length sets ≤ number_of sets a
past_by true sets a is h =
    let there : number_of sets a < length sets = grind (arith, nat_tests) in
    let e = sym (known-there sets a there) ∙ h in
    cc
past_by false sets a is h = grind (arith, nat_tests)

-- a set with no number is not there
past_from_none : (sets : List (List ClassId)) (a : List ClassId) → known_number sets a ≡ None → length sets ≤ number_of sets a
past_from_none sets a h = past_by (nat_lt (number_of sets a) (length sets)) sets a refl h

there_by : (there : Bool) (sets : List (List ClassId)) (a : List ClassId) (s : SetId) → nat_lt (number_of sets a) (length sets) ≡ there → known_number sets a ≡ Some s
    → (s.0 ≡ number_of sets a) × (number_of sets a < length sets)
there_by true sets a s is h =
    let there : number_of sets a < length sets = grind (arith, nat_tests) in
    let same = same_Some _ s (sym (known-there sets a there) ∙ h) in
    (sym (ap (λ (n : SetId). n.0) same), there)
there_by false sets a s is h =
    let past : length sets ≤ number_of sets a = grind (arith, nat_tests) in
    let e = sym (known-none sets a past) ∙ h in
    cc

-- what the look-up of the members of a set finds
pub found_number : (t : Classes) (set : List ClassId) (members : Vec ClassId Global) (numbers : BTreeMap (Vec ClassId Global) SetId) (s : SetId) → Numbers t.sets numbers → Rising members.items → is_same_set members.items set ≡ true
    → Some s ≡ get members_cmp numbers members → (s.0 ≡ number_of t.sets set) × (t ≡ with_set t set)
found_number t set members numbers s knows up same found =
    let n = number_of-same t.sets members.items set same in
    let there = there_by (nat_lt (number_of t.sets members.items) (length t.sets)) t.sets members.items s refl (sym (knows.of members up) ∙ sym found) in
    let test : nat_lt (number_of t.sets set) (length t.sets) ≡ true = grind (arith, nat_tests, there.1, n) in
    (there.0 ∙ n, sym (cond-true (nat_lt (number_of t.sets set) (length t.sets)) t (record t { sets = t.sets ++ set ∷ [] }) test))

-- what it means where it finds nothing
pub next_number : (t : Classes) (set : List ClassId) (members : Vec ClassId Global) (numbers : BTreeMap (Vec ClassId Global) SetId) → Numbers t.sets numbers → Rising members.items → is_same_set members.items set ≡ true
    → get members_cmp numbers members ≡ None
    → (length t.sets ≡ number_of t.sets set) × ((more : List (List ClassId)) → more ≡ t.sets ++ set ∷ [] → record t { sets = more } ≡ with_set t set)
next_number t set members numbers knows up same none =
    let n = number_of-same t.sets members.items set same in
    let past = past_from_none t.sets members.items (sym (knows.of members up) ∙ none) in
    let last : length t.sets ≡ number_of t.sets set = omega (arith, past, n, number_of-le t.sets set) in
    let test : nat_lt (number_of t.sets set) (length t.sets) ≡ false = grind (arith, nat_tests, last) in (
      last,
      λ more is.
          ap (λ (sets : List (List ClassId)). record t { sets = sets }) is
          ∙ sym (cond-false (nat_lt (number_of t.sets set) (length t.sets)) t (record t { sets = t.sets ++ set ∷ [] }) test),
    )

-- a table that knows a set more
pub numbers-push : (sets : List (List ClassId)) (set : List ClassId) (members : Vec ClassId Global) (n : SetId) (old new : BTreeMap (Vec ClassId Global) SetId) → Numbers sets old
    → Rising members.items → is_same_set members.items set ≡ true → get members_cmp old members ≡ None → n.0 ≡ length sets
    → ((q : Vec ClassId Global) → get members_cmp new q ≡ cond (is_at (members_cmp members) q) (Some n) (get members_cmp old q))
    → Numbers (sets ++ set ∷ []) new
numbers-push sets set members n old new knows up same none number is = record {
  of = λ q up'.
      is q
      ∙ ap (cond (is_at (members_cmp members) q) (Some n)) (knows.of q up')
      ∙ number_at (is_at (members_cmp members) q) sets set members q n refl up up' same (past_from_none sets members.items (sym (knows.of members up) ∙ none)) number;
}

-- what a call says that didn't fail
pub where_ok : {T E : Type 0} (r : Result T E) (P : Type 0) → false ≡ is_err r → OnOk r P → P
where_ok (Ok x) P h p = p
where_ok (Err e) P h p = cc

-- ---- a set that is there once more

again_by : (same : Bool) (sets : List (List ClassId)) (b a : List ClassId) → is_same_set b a ≡ same → number_of sets b < length sets → known_number (sets ++ b ∷ []) a ≡ known_number sets a
again_by false sets b a is there = known-kept sets b a is
again_by true sets b a is there =
    let n = number_of-same sets b a is in
    let before : number_of sets a < length sets = omega (arith, there, n) in
    let kept = number_of-kept sets b a before in
    known-there (sets ++ b ∷ []) a (omega (arith, length_push sets b))
    ∙ ap {B = Option SetId} (λ (k : ℕ). Some (record { 0 = k })) kept
    ∙ sym (known-there sets a before)

-- the numbers are the same
pub numbers-again : (sets : List (List ClassId)) (set : List ClassId) (members : Vec ClassId Global) (s : SetId) (numbers : BTreeMap (Vec ClassId Global) SetId) → Numbers sets numbers
    → Rising members.items → is_same_set members.items set ≡ true → Some s ≡ get members_cmp numbers members → Numbers (sets ++ set ∷ []) numbers
numbers-again sets set members s numbers knows up same found =
    let n = number_of-same sets members.items set same in
    let there = there_by (nat_lt (number_of sets members.items) (length sets)) sets members.items s refl (sym (knows.of members up) ∙ sym found) in
    let known : number_of sets set < length sets = omega (arith, there.1, n) in
    record {
      of = λ q up'. knows.of q up' ∙ sym (again_by (is_same_set set q.items) sets set q.items refl known);
    }

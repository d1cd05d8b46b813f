-- The members of a set, each once in rising order.
use Rattle.std.proofs.Common.{◌≡◌, ℕ, zero, suc, ◌+◌, ◌<◌, ◌≤◌, ◌==◌, Bool, true, false, ◌||◌, cond, nat_lt, List, [], ◌∷◌, length, get_or, Result, Ok, Err, refl, sym, ap, subst, ◌∙◌, arith}
use Rattle.std.proofs.lemmas.Bool.{or_left, or_right}
use Rattle.std.proofs.lemmas.Bool.Decides.{nat_tests}
use Rattle.std.proofs.lemmas.Cmp.{on_total, nat_cmp_total}
use Rattle.std.proofs.lemmas.List.Filters.{dedup_is}
use Rattle.std.proofs.lemmas.List.Kept.{IsStrictlySortedBy-dedup}
use Rattle.std.proofs.lemmas.List.Sorted.{list_any-IsPermutation, searchable_from_sorted}
use Rattle.std.proofs.lemmas.Map.Keys.{Less-from_sorted}
use Rattle.std.proofs.lemmas.Map.Lookups.{CmpEqualImpliesEq, exact_unsigned, btree_set_from_contains}
use Rattle.std.specs.BTreeMap.{is_at}
use Rattle.std.specs.Cmp.{IsTotalOrder}
use Rattle.std.specs.List.{list_any, dedup, dedup_from}
use Rattle.std.specs.List.Retain.{IsFiltered, DiffersFromLast}
use Rattle.std.specs.List.Sorted.{IsSorted, IsPermutation, IsNonDecreasingBy, IsBinarySearchResult, IsSearchInRange}
use Rattle.std.specs.Ordering.{nat_cmp, is_eq, is_lt, eq_by_cmp, ordering_index}
use Rattle.std.specs.Result.{is_ok}
use Rattle.std.specs.declared.cmp.Ordering.TheVariants.{Less, Equal, Greater}
use Rattle.value_ops.specs.declared.values.ClassId.{ClassId}
use Rattle.record_classes.specs.Classes.{has, is_same_set}
use Rattle.record_classes.specs.Held.{class_cmp, Rising, Members}
use Rattle.record_classes.proofs.SameSets.{has_same, same_class, same_from_has}

at_number : (m n : ℕ) → is_eq (nat_cmp m n) ≡ (n == m)
at_number m n = grind (arith, nat_tests)

-- a look-up among classes is a search by their numbers
pub any_is_has : (classes : List ClassId) (c : ClassId) → list_any (is_at (class_cmp c)) classes ≡ has classes c
any_is_has [] c = refl
any_is_has (d ∷ classes) c =
    ap (λ (b : Bool). b || list_any (is_at (class_cmp c)) classes) (at_number c.0 d.0)
    ∙ ap (λ (b : Bool). d.0 == c.0 || b) (any_is_has classes c)

pub class_cmp-total : IsTotalOrder class_cmp
class_cmp-total = on_total (λ (c : ClassId). c.0) nat_cmp_total

pub class_cmp-exact : CmpEqualImpliesEq class_cmp
class_cmp-exact c d h = ap {B = ClassId} (λ (n : ℕ). record { 0 = n }) (exact_unsigned c.0 d.0 h)

-- equal sets have the same members
pub same_members : (a b : List ClassId) → Rising a → Rising b → is_same_set a b ≡ true → a ≡ b
same_members a b up up' same =
    btree_set_from_contains class_cmp-total (record { keys = a }) (record { keys = b }) up up'
    (λ c. any_is_has a c ∙ has_same a b c same ∙ sym (any_is_has b c))
    class_cmp-exact

-- ---- the classes of a set, each once

abbrev same : ClassId → ClassId → Bool
same c d = c.0 == d.0

has_once_from : (k : ClassId) (classes : List ClassId) (c : ClassId) → has (dedup_from same k classes) c ≡ (k.0 == c.0 || has classes c)
has_once_from k [] c = refl
has_once_from k (d ∷ classes) c = by (same d k) refl (has_once_from k classes c) (has_once_from d classes c)
  where
    twice : (a b : Bool) → (a || b) ≡ (a || (a || b))
    twice true b = refl
    twice false b = refl

    by : (t : Bool) → same d k ≡ t → has (dedup_from same k classes) c ≡ (k.0 == c.0 || has classes c) → has (dedup_from same d classes) c ≡ (d.0 == c.0 || has classes c)
        → has (cond t (dedup_from same k classes) (k ∷ dedup_from same d classes)) c ≡ (k.0 == c.0 || (d.0 == c.0 || has classes c))
    by true e here rest = here ∙ subst (λ (q : ClassId). (k.0 == c.0 || has classes c) ≡ (k.0 == c.0 || (q.0 == c.0 || has classes c))) (sym (same_class d k e)) (twice (k.0 == c.0) (has classes c))
    by false e here rest = ap (λ b. k.0 == c.0 || b) rest

has_once : (classes : List ClassId) (c : ClassId) → has (dedup same classes) c ≡ has classes c
has_once [] c = refl
has_once (d ∷ classes) c = has_once_from d classes c

pub once_rises : (sorted once : List ClassId) → IsSorted class_cmp sorted → IsFiltered (DiffersFromLast same) [] sorted once → Rising once
once_rises sorted once up kept = subst Rising (sym (dedup_is same sorted once kept)) (IsStrictlySortedBy-dedup class_cmp-total ties sorted up)
  where
    ties : (c d : ClassId) → same c d ≡ eq_by_cmp class_cmp c d
    ties c d = grind (arith, nat_tests)

pub once_is_set : (classes sorted once : List ClassId) → IsPermutation classes sorted → IsFiltered (DiffersFromLast same) [] sorted once → is_same_set once classes ≡ true
once_is_set classes sorted once moved kept =
    same_from_has once classes
    (λ c. ap (λ (set : List ClassId). has set c) (dedup_is same sorted once kept)
    ∙ has_once sorted c
    ∙ sym (any_is_has sorted c)
    ∙ sym (list_any-IsPermutation (is_at (class_cmp c)) classes sorted moved)
    ∙ any_is_has classes c)

-- ---- a class that is searched among classes in rising order

at_place : (classes : List ClassId) (c d : ClassId) (i : ℕ) → i < length classes → class_cmp (get_or classes i d) c ≡ Equal → has classes c ≡ true
at_place [] c d i within is = absurd (omega arith)
at_place (e ∷ classes) c d zero within is = or_left (e.0 == c.0) (has classes c) (grind (arith, nat_tests))
at_place (e ∷ classes) c d (suc i) within is = or_right (e.0 == c.0) (has classes c) (at_place classes c d i (omega arith) is)

at_none : (classes : List ClassId) (c : ClassId) → ((i : ℕ) (d : ClassId) → i < length classes → ((get_or classes i d).0 == c.0) ≡ false) → has classes c ≡ false
at_none [] c f = refl
at_none (e ∷ classes) c f = ap (λ (b : Bool). b || has classes c) (f 0 e (omega arith)) ∙ at_none classes c (λ i d within. f (suc i) d (omega arith))

searchable : (classes : List ClassId) (c : ClassId) → Rising classes → IsNonDecreasingBy (λ d. ordering_index (class_cmp d c)) classes
searchable classes c up =
    searchable_from_sorted class_cmp-total (λ (d : ClassId). d) classes c
    (λ k d low high. back (get_or classes k d) (get_or classes (k + 1) d) (Less-from_sorted class_cmp classes k (k + 1) d up (omega arith) high))
  where
    back : (a b : ClassId) → class_cmp a b ≡ Less → is_lt (class_cmp b a) ≡ false
    back a b h = grind (arith, nat_tests)

apart : (t : Bool) (i j : ℕ) (a c : ClassId) → nat_lt j i ≡ t → (j < i → class_cmp a c ≡ Less) → (i ≤ j → class_cmp a c ≡ Greater) → (a.0 == c.0) ≡ false
apart true i j a c e low high =
    let h = low (grind (arith, nat_tests)) in
    grind (arith, nat_tests)
apart false i j a c e low high =
    let h = high (grind (arith, nat_tests)) in
    grind (arith, nat_tests)

-- what a search among the members of a set says
pub searched_has : (classes members : List ClassId) (c : ClassId) (r : Result ℕ ℕ) → Members classes members → IsSearchInRange r (length members) → IsBinarySearchResult (λ d. class_cmp d c) members r → is_ok r ≡ has classes c
searched_has classes members c (Ok i) held within is = sym (at_place members c c i within (is c)) ∙ has_same members classes c held.same
searched_has classes members c (Err i) held within is =
    let split = is (searchable members c held.rising) in
    sym (at_none members c (λ j d below. apart (nat_lt j i) i j (get_or members j d) c refl (λ h. split.0 j d (omega arith) h) (λ h. split.1 j d h below))) ∙ has_same members classes c held.same

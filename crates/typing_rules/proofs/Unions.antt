-- Sets of classes together, and one set within another.
use Rattle.std.proofs.Common.{◌≡◌, Bool, true, false, cond, ◌||◌, ◌&&◌, ◌<◌, ◌==◌, ◌⊎◌, inl, inr, List, [], ◌∷◌, ◌++◌, length, refl, sym, ap, subst, ◌∙◌, arith, append_assoc, append-nil}
use Rattle.std.proofs.lemmas.Bool.{and_parts}
use Rattle.std.proofs.lemmas.Bool.Decides.{nat_tests}
use Rattle.std.proofs.lemmas.List.Filters.{dedup_is}
use Rattle.std.proofs.lemmas.List.Kept.{IsStrictlySortedBy-dedup}
use Rattle.std.proofs.lemmas.List.Sorted.{list_any-IsPermutation}
use Rattle.std.proofs.lemmas.Map.Lookups.{btree_set_from_contains}
use Rattle.std.specs.BTreeMap.{is_at}
use Rattle.std.specs.List.{list_any, dedup, dedup_from}
use Rattle.std.specs.List.Retain.{IsFiltered, DiffersFromLast}
use Rattle.std.specs.List.Sorted.{IsSorted, IsPermutation}
use Rattle.std.specs.Ordering.{is_eq, eq_by_cmp}
use Rattle.std.specs.declared.cmp.Ordering.{Ordering}
use Rattle.std.specs.declared.cmp.Ordering.TheVariants.{Less, Equal, Greater}
use Rattle.value_ops.specs.declared.places.Place.{Place}
use Rattle.algolw_typing.specs.Laws.{place_cmp}
use Rattle.algolw_typing.specs.Types.{is_before, is_place, has, with_class, union}
use Rattle.typing_rules.specs.ClassSets.{Rising, is_within}
use Rattle.typing_rules.proofs.Sets.{Before, absent, before_less, before_more, behind_rises, equal_places, first_of, in_front, left_is, left_of, less_back, none_rises, not_before, other_greater, other_less, place_equal, place_itself, place_total, rises_on, same_place, has-any}

-- ---- one set within another

within_behind : (d : Place) (set others : List Place) → Before d set → is_within set (d ∷ others) ≡ is_within set others
within_behind d [] others b = refl
within_behind d (c ∷ set) others b = rw (other_less d c b.0, within_behind d set others b.1)

pub within_less : (set others : List Place) (none : Place) → 0 < length set → 0 < length others → place_cmp (first_of set none) (first_of others none) ≡ Less → Rising others → is_within set others ≡ false
within_less [] others none m n h r = absurd (omega arith)
within_less (c ∷ set) [] none m n h r = absurd (omega arith)
within_less (c ∷ set) (d ∷ others) none m n h r = ap (λ b. b && is_within set (d ∷ others)) (absent c (d ∷ others) (before_more c d others h (in_front d others r)))

pub within_greater : (set others : List Place) (none : Place) → 0 < length set → 0 < length others → place_cmp (first_of set none) (first_of others none) ≡ Greater → Rising set → is_within set (left_of others) ≡ is_within set others
within_greater [] others none m n h r = absurd (omega arith)
within_greater (c ∷ set) [] none m n h r = absurd (omega arith)
within_greater (c ∷ set) (d ∷ others) none m n h r =
    ap (is_within (c ∷ set)) (left_is d others) ∙ sym (within_behind d (c ∷ set) others (before_more d c set (less_back c d h) (in_front c set r)))

pub within_equal : (set others : List Place) (none : Place) → 0 < length set → 0 < length others → place_cmp (first_of set none) (first_of others none) ≡ Equal → Rising set → is_within (left_of set) (left_of others) ≡ is_within set others
within_equal [] others none m n h r = absurd (omega arith)
within_equal (c ∷ set) [] none m n h r = absurd (omega arith)
within_equal (c ∷ set) (d ∷ others) none m n h r =
    let here : is_place d c ≡ true = sym (place_equal c d) ∙ ap is_eq h in
    ap (λ s. is_within s (left_of (d ∷ others))) (left_is c set)
    ∙ ap (is_within set) (left_is d others)
    ∙ sym (within_behind d set others (subst (λ (e : Place). Before e set) (equal_places c d h) (in_front c set r)))
    ∙ ap (λ b. (b || has others c) && is_within set (d ∷ others)) (sym here)

-- two sets of which one has nothing left
pub within_end : (set others : List Place) → (length set < 1) ⊎ (length others < 1) → (length set == 0) ≡ is_within set others
within_end [] others h = refl
within_end (c ∷ set) [] h = grind (arith, nat_tests)
within_end (c ∷ set) (d ∷ others) (inl h) = absurd (omega arith)
within_end (c ∷ set) (d ∷ others) (inr h) = absurd (omega arith)

-- ---- a class put into a set

abbrev put_by : Bool → Bool → Place → Place → List Place → List Place → List Place
put_by before same c d set rest = elim before [ true ↦ c ∷ d ∷ set | false ↦ elim same [ true ↦ d ∷ set | false ↦ d ∷ rest ] ]

with_front : (c : Place) (set : List Place) → Before c set → with_class c set ≡ c ∷ set
with_front c [] b = refl
with_front c (d ∷ set) b = ap (λ t. put_by t (is_place c d) c d set (with_class c set)) (before_less c d b.0)

with_behind : (c d : Place) (set : List Place) → place_cmp d c ≡ Less → with_class c (d ∷ set) ≡ d ∷ with_class c set
with_behind c d set h =
    ap (λ t. put_by t (is_place c d) c d set (with_class c set)) (not_before d c h) ∙ ap (λ t. put_by false t c d set (with_class c set)) (other_greater d c h)

not_itself : (p : Place) → is_before p p ≡ false
not_itself p = grind (arith, nat_tests)

with_itself : (c d : Place) (set : List Place) → place_cmp c d ≡ Equal → with_class c (d ∷ set) ≡ d ∷ set
with_itself c d set h =
    subst (λ (e : Place). with_class e (d ∷ set) ≡ d ∷ set) (sym (equal_places c d h))
    (ap (λ t. put_by t (is_place d d) d d set (with_class d set)) (not_itself d) ∙ ap (λ t. put_by false t d d set (with_class d set)) (place_itself d))

before_with : (c d : Place) (set : List Place) → place_cmp c d ≡ Less → Before c set → Before c (with_class d set)
before_with c d [] h b = (h, tt)
before_with c d (e ∷ set) h b = by (is_before d e) (is_place d e) (before_with c d set h b.1)
  where
    by : (t u : Bool) → Before c (with_class d set) → Before c (put_by t u d e set (with_class d set))
    by true u rest = (h, b)
    by false true rest = b
    by false false rest = (b.0, rest)

with_rises : (c : Place) (set : List Place) → Rising set → Rising (with_class c set)
with_rises c [] r = rises_on c [] tt none_rises
with_rises c (d ∷ set) r = by (place_cmp c d) refl (with_rises c set (behind_rises d set r))
  where
    by : (o : Ordering) → place_cmp c d ≡ o → Rising (with_class c set) → Rising (with_class c (d ∷ set))
    by Less g rest = let b = before_more c d set g (in_front d set r) in subst Rising (sym (with_front c (d ∷ set) b)) (rises_on c (d ∷ set) b r)
    by Equal g rest = subst Rising (sym (with_itself c d set g)) r
    by Greater g rest =
        subst Rising (sym (with_behind c d set (less_back c d g))) (rises_on d (with_class c set) (before_with d c set (less_back c d g) (in_front d set r)) rest)

-- ---- sets together

before_union : (c : Place) (set others : List Place) → Before c set → Before c others → Before c (union set others)
before_union c [] others b f = f
before_union c (d ∷ set) others b f = before_with c d (union set others) b.0 (before_union c set others b.1 f)

pub union_rises : (set others : List Place) → Rising others → Rising (union set others)
union_rises [] others r = r
union_rises (c ∷ set) others r = with_rises c (union set others) (union_rises set others r)

union_behind : (d : Place) (set others : List Place) → Before d set → union set (d ∷ others) ≡ d ∷ union set others
union_behind d [] others b = refl
union_behind d (c ∷ set) others b = ap (with_class c) (union_behind d set others b.1) ∙ with_behind c d (union set others) b.0

ahead : (c d : Place) (set others : List Place) → place_cmp c d ≡ Less → Rising (c ∷ set) → Rising (d ∷ others) → union (c ∷ set) (d ∷ others) ≡ c ∷ union set (d ∷ others)
ahead c d set others h r s =
    with_front c (union set (d ∷ others)) (before_union c set (d ∷ others) (in_front c set r) (before_more c d others h (in_front d others s)))

together : (c d : Place) (set others : List Place) → place_cmp c d ≡ Equal → Rising (c ∷ set) → union (c ∷ set) (d ∷ others) ≡ c ∷ union set others
together c d set others h r =
    let same : c ≡ d = equal_places c d h in
    ap (with_class c) (union_behind d set others (subst (λ (e : Place). Before e set) same (in_front c set r)))
    ∙ with_itself c d (union set others) h
    ∙ ap (λ (e : Place). e ∷ union set others) (sym same)

pub union_less : (set others : List Place) (none : Place) → 0 < length set → 0 < length others → place_cmp (first_of set none) (first_of others none) ≡ Less → Rising set → Rising others → first_of set none ∷ union (left_of set) others ≡ union set others
union_less [] others none m n h r s = absurd (omega arith)
union_less (c ∷ set) [] none m n h r s = absurd (omega arith)
union_less (c ∷ set) (d ∷ others) none m n h r s = ap (λ t. c ∷ union t (d ∷ others)) (left_is c set) ∙ sym (ahead c d set others h r s)

pub union_equal : (set others : List Place) (none : Place) → 0 < length set → 0 < length others → place_cmp (first_of set none) (first_of others none) ≡ Equal → Rising set → first_of set none ∷ union (left_of set) (left_of others) ≡ union set others
union_equal [] others none m n h r = absurd (omega arith)
union_equal (c ∷ set) [] none m n h r = absurd (omega arith)
union_equal (c ∷ set) (d ∷ others) none m n h r =
    ap (λ t. c ∷ union t (left_of (d ∷ others))) (left_is c set) ∙ ap (λ t. c ∷ union set t) (left_is d others) ∙ sym (together c d set others h r)

pub union_greater : (set others : List Place) (none : Place) → 0 < length set → 0 < length others → place_cmp (first_of set none) (first_of others none) ≡ Greater → Rising set → first_of others none ∷ union set (left_of others) ≡ union set others
union_greater [] others none m n h r = absurd (omega arith)
union_greater (c ∷ set) [] none m n h r = absurd (omega arith)
union_greater (c ∷ set) (d ∷ others) none m n h r =
    ap (λ t. d ∷ union (c ∷ set) t) (left_is d others) ∙ sym (union_behind d (c ∷ set) others (before_more d c set (less_back c d h) (in_front c set r)))

pub union_none : (set : List Place) → Rising set → union set [] ≡ set
union_none [] r = refl
union_none (c ∷ set) r = ap (with_class c) (union_none set (behind_rises c set r)) ∙ with_front c set (in_front c set r)

-- what is left of two sets, of which one has nothing left
pub union_end : (set others : List Place) → (length set < 1) ⊎ (length others < 1) → Rising set → set ++ others ≡ union set others
union_end [] others h r = refl
union_end (c ∷ set) [] h r = append-nil (c ∷ set) ∙ sym (union_none (c ∷ set) r)
union_end (c ∷ set) (d ∷ others) (inl h) r = absurd (omega arith)
union_end (c ∷ set) (d ∷ others) (inr h) r = absurd (omega arith)

-- a class moves from what is left to what is merged
pub carried : (all all' : List Place) (c : Place) (left left' total : List Place) → all' ≡ all ++ c ∷ [] → c ∷ left' ≡ left → all ++ left ≡ total → all' ++ left' ≡ total
carried all all' c left left' total e f g = ap (λ (s : List Place). s ++ left') e ∙ append_assoc all (c ∷ []) left' ∙ ap (λ (s : List Place). all ++ s) f ∙ g

with_known : (c : Place) (set : List Place) → has set c ≡ true → Rising set → with_class c set ≡ set
with_known c [] h r = cc
with_known c (d ∷ set) h r = by (place_cmp c d) refl (λ k. with_known c set k (behind_rises d set r))
  where
    by : (o : Ordering) → place_cmp c d ≡ o → (has set c ≡ true → with_class c set ≡ set) → with_class c (d ∷ set) ≡ d ∷ set
    by Less g rest = let none = absent c (d ∷ set) (before_more c d set g (in_front d set r)) in cc
    by Equal g rest = with_itself c d set g
    by Greater g rest =
        let later : has set c ≡ true = ap (λ b. b || has set c) (sym (other_less d c (less_back c d g))) ∙ h in
        with_behind c d set (less_back c d g) ∙ ap (λ s. d ∷ s) (rest later)

-- the first set is within the second
pub union_within : (set others : List Place) → is_within set others ≡ true → Rising others → union set others ≡ others
union_within [] others h r = refl
union_within (c ∷ set) others h r =
    let parts = and_parts (has others c) (is_within set others) h in
    ap (with_class c) (union_within set others parts.1 r) ∙ with_known c others parts.0 r

-- the second set is within the first
pub union_around : (set others : List Place) → is_within others set ≡ true → Rising set → Rising others → union set others ≡ set
union_around set [] h r s = union_none set r
union_around [] (d ∷ others) h r s = cc
union_around (c ∷ set) (d ∷ others) h r s =
    let rise = behind_rises c set r in
    by (place_cmp c d) refl (λ k. union_around set (d ∷ others) k rise s) (λ k. union_around set others k rise (behind_rises d others s))
  where
    parts : (has (c ∷ set) d ≡ true) × (is_within others (c ∷ set) ≡ true)
    parts = and_parts (has (c ∷ set) d) (is_within others (c ∷ set)) h

    by : (o : Ordering) → place_cmp c d ≡ o → (is_within (d ∷ others) set ≡ true → union set (d ∷ others) ≡ set) → (is_within others set ≡ true → union set others ≡ set) → union (c ∷ set) (d ∷ others) ≡ c ∷ set
    by Less g all behind =
        ahead c d set others g r s ∙ ap (λ t. c ∷ t) (all (sym (within_behind c (d ∷ others) set (before_more c d others g (in_front d others s))) ∙ h))
    by Equal g all behind =
        let b : Before c others = subst (λ (e : Place). Before e others) (sym (equal_places c d g)) (in_front d others s) in
        together c d set others g r ∙ ap (λ t. c ∷ t) (behind (sym (within_behind c others set b) ∙ parts.1))
    by Greater g all behind =
        let none = absent d (c ∷ set) (before_more d c set (less_back c d g) (in_front c set r)) in
        let here = parts.0 in
        cc

-- ---- equal sets

at_place : (p : Place) (set : List Place) → list_any (is_at (place_cmp p)) set ≡ has set p
at_place p [] = refl
at_place p (c ∷ set) = ap (λ b. b || list_any (is_at (place_cmp p)) set) (place_equal p c) ∙ ap (λ b. is_place c p || b) (at_place p set)

-- sets that have the same classes are one list
pub one_list : (set others : List Place) → Rising set → Rising others → ((c : Place) → has set c ≡ has others c) → set ≡ others
one_list set others r s same =
    btree_set_from_contains place_total (record { keys = set }) (record { keys = others }) r s
    (λ c. at_place c set ∙ same c ∙ sym (at_place c others))
    equal_places

-- ---- a set of classes in any order

has_with : (c p : Place) (set : List Place) → has (with_class c set) p ≡ (is_place c p || has set p)
has_with c p [] = refl
has_with c p (d ∷ set) = by (is_before c d) (is_place c d) refl (has_with c p set)
  where
    apart : (a b e : Bool) → (a || (b || e)) ≡ (b || (a || e))
    apart true true e = refl
    apart true false e = refl
    apart false b e = refl

    twice : (a b : Bool) → (a || b) ≡ (a || (a || b))
    twice true b = refl
    twice false b = refl

    by : (t u : Bool) → is_place c d ≡ u → has (with_class c set) p ≡ (is_place c p || has set p)
        → has (put_by t u c d set (with_class c set)) p ≡ (is_place c p || (is_place d p || has set p))
    by true u e rest = refl
    by false true e rest = subst (λ (q : Place). has (d ∷ set) p ≡ (is_place q p || (is_place d p || has set p))) (sym (same_place c d e)) (twice (is_place d p) (has set p))
    by false false e rest = ap (λ b. is_place d p || b) rest ∙ sym (apart (is_place c p) (is_place d p) (has set p))

has_all : (classes : List Place) (p : Place) → has (union classes []) p ≡ has classes p
has_all [] p = refl
has_all (c ∷ classes) p = has_with c p (union classes []) ∙ ap (λ b. is_place c p || b) (has_all classes p)

has_once_from : (k : Place) (classes : List Place) (p : Place) → has (dedup_from is_place k classes) p ≡ (is_place k p || has classes p)
has_once_from k [] p = refl
has_once_from k (c ∷ classes) p = by (is_place c k) refl (has_once_from k classes p) (has_once_from c classes p)
  where
    twice : (a b : Bool) → (a || b) ≡ (a || (a || b))
    twice true b = refl
    twice false b = refl

    by : (t : Bool) → is_place c k ≡ t → has (dedup_from is_place k classes) p ≡ (is_place k p || has classes p) → has (dedup_from is_place c classes) p ≡ (is_place c p || has classes p)
        → has (cond t (dedup_from is_place k classes) (k ∷ dedup_from is_place c classes)) p ≡ (is_place k p || (is_place c p || has classes p))
    by true e here rest = here ∙ subst (λ (q : Place). (is_place k p || has classes p) ≡ (is_place k p || (is_place q p || has classes p))) (sym (same_place c k e)) (twice (is_place k p) (has classes p))
    by false e here rest = ap (λ b. is_place k p || b) rest

has_once : (classes : List Place) (p : Place) → has (dedup is_place classes) p ≡ has classes p
has_once [] p = refl
has_once (c ∷ classes) p = has_once_from c classes p

-- classes in order, each once
pub once_rises : (classes once : List Place) → IsSorted place_cmp classes → IsFiltered (DiffersFromLast is_place) [] classes once → Rising once
once_rises classes once sorted kept =
    subst Rising (sym (dedup_is is_place classes once kept)) (IsStrictlySortedBy-dedup place_total ties classes sorted)
  where
    ties : (p q : Place) → is_place p q ≡ eq_by_cmp place_cmp p q
    ties p q = grind (arith, nat_tests)

-- they are the set of these classes
pub once_is_set : (classes sorted once : List Place) → IsPermutation classes sorted → IsFiltered (DiffersFromLast is_place) [] sorted once → Rising once → once ≡ union classes []
once_is_set classes sorted once moved kept r =
    one_list once (union classes []) r (union_rises classes [] none_rises)
    (λ p. ap (λ (set : List Place). has set p) (dedup_is is_place sorted once kept)
    ∙ has_once sorted p
    ∙ sym (has-any sorted p)
    ∙ sym (list_any-IsPermutation (λ d. is_place d p) classes sorted moved)
    ∙ has-any classes p
    ∙ sym (has_all classes p))

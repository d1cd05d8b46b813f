-- Sets of classes in order of place, as a merge goes through two of them.
use Rattle.std.proofs.Common.{◌≡◌, true, false, ◌||◌, ◌-◌, ◌<◌, List, [], ◌∷◌, length, get_or, take, drop, refl, sym, ap, subst, ◌∙◌, arith}
use Rattle.std.proofs.lemmas.List.{take_all}
use Rattle.std.proofs.lemmas.Bool.Decides.{nat_tests}
use Rattle.std.proofs.lemmas.Cmp.{on_total, then_total, nat_cmp_total}
use Rattle.std.specs.Cmp.{IsTotalOrder}
use Rattle.std.specs.List.{AllByRecursion, list_any}
use Rattle.std.specs.List.Sorted.{IsStrictlySortedBy}
use Rattle.std.specs.Ordering.{is_eq, is_lt, ordering_reverse}
use Rattle.std.specs.declared.cmp.Ordering.TheVariants.{Less, Equal, Greater}
use Rattle.value_ops.specs.declared.places.Place.{Place}
use Rattle.algolw_typing.specs.Laws.{place_cmp}
use Rattle.algolw_typing.specs.Types.{is_before, is_place, has, share_one}
use Rattle.typing_rules.specs.ClassSets.{Rising}

-- ---- the order of places

pub place_total : IsTotalOrder place_cmp
place_total = then_total (on_total (λ (p : Place). p.card) nat_cmp_total) (on_total (λ (p : Place). p.column) nat_cmp_total)

pub place_less : (p q : Place) → is_lt (place_cmp p q) ≡ is_before p q
place_less p q = grind (arith, nat_tests)

pub place_equal : (p q : Place) → is_eq (place_cmp p q) ≡ is_place q p
place_equal p q = grind (arith, nat_tests)

same_numbers : (p q : Place) → is_place p q ≡ true → (p.card ≡ q.card) × (p.column ≡ q.column)
same_numbers p q h = grind (arith, nat_tests)

-- places with the same numbers are one place
pub same_place : (p q : Place) → is_place p q ≡ true → p ≡ q
same_place p q h =
    let e = same_numbers p q h in
    ap {B = Place} (λ n. record { card = n; column = p.column }) e.0 ∙ ap {B = Place} (λ n. record { card = q.card; column = n }) e.1

pub place_itself : (p : Place) → is_place p p ≡ true
place_itself p = grind (arith, nat_tests)

-- what the order says of two places
pub before_less : (p q : Place) → place_cmp p q ≡ Less → is_before p q ≡ true
before_less p q h = sym (place_less p q) ∙ ap is_lt h

pub other_less : (p q : Place) → place_cmp p q ≡ Less → is_place p q ≡ false
other_less p q h = grind (arith, nat_tests)

pub other_greater : (p q : Place) → place_cmp p q ≡ Less → is_place q p ≡ false
other_greater p q h = grind (arith, nat_tests)

pub not_before : (p q : Place) → place_cmp p q ≡ Less → is_before q p ≡ false
not_before p q h = grind (arith, nat_tests)

-- the greater of two places is behind the other
pub less_back : (p q : Place) → place_cmp p q ≡ Greater → place_cmp q p ≡ Less
less_back p q h = place_total.antisymm q p ∙ ap ordering_reverse h

pub equal_places : (p q : Place) → place_cmp p q ≡ Equal → p ≡ q
equal_places p q h = sym (same_place q p (sym (place_equal p q) ∙ ap is_eq h))

-- ---- a class in front of others

-- a class is before each of these
abbrev pub Before : Place → List Place → Type 0
Before c set = AllByRecursion (λ d. place_cmp c d ≡ Less) set

before_all : (c d : Place) (set : List Place) → place_cmp c d ≡ Less → Before d set → Before c set
before_all c d [] h b = tt
before_all c d (e ∷ set) h b = (place_total.trans c d e h b.0, before_all c d set h b.1)

pub before_more : (c d : Place) (set : List Place) → place_cmp c d ≡ Less → Before d set → Before c (d ∷ set)
before_more c d set h b = (h, before_all c d set h b)

pub in_front : (c : Place) (set : List Place) → Rising (c ∷ set) → Before c set
unfolding IsStrictlySortedBy
in_front c set r = r.0

pub behind_rises : (c : Place) (set : List Place) → Rising (c ∷ set) → Rising set
unfolding IsStrictlySortedBy
behind_rises c set r = r.1

pub rises_on : (c : Place) (set : List Place) → Before c set → Rising set → Rising (c ∷ set)
unfolding IsStrictlySortedBy
rises_on c set b r = (b, r)

pub none_rises : Rising []
unfolding IsStrictlySortedBy
none_rises = tt

pub one_rises : (c : Place) → Rising (c ∷ [])
one_rises c = rises_on c [] tt none_rises

pub absent : (c : Place) (set : List Place) → Before c set → has set c ≡ false
absent c [] b = refl
absent c (d ∷ set) b = rw (other_greater c d b.0) (absent c set b.1)

-- ---- the first class of a set, and those behind it

abbrev pub first_of : List Place → Place → Place
first_of set none = get_or set 0 none

abbrev pub left_of : List Place → List Place
left_of set = take (length set - 1) (drop 1 set)

pub left_is : (c : Place) (set : List Place) → left_of (c ∷ set) ≡ set
left_is c set = take_all (length (c ∷ set) - 1) set (omega arith)

pub left_rises : (set : List Place) → 0 < length set → Rising set → Rising (left_of set)
left_rises [] h r = absurd (omega arith)
left_rises (c ∷ set) h r = subst Rising (sym (left_is c set)) (behind_rises c set r)

-- ---- what two sets have in common

share_behind : (d : Place) (set others : List Place) → Before d set → share_one set (d ∷ others) ≡ share_one set others
share_behind d [] others b = refl
share_behind d (c ∷ set) others b = rw (other_less d c b.0, share_behind d set others b.1)

pub share_less : (set others : List Place) (none : Place) → 0 < length set → 0 < length others → place_cmp (first_of set none) (first_of others none) ≡ Less → Rising others → share_one (left_of set) others ≡ share_one set others
share_less [] others none m n h r = absurd (omega arith)
share_less (c ∷ set) [] none m n h r = absurd (omega arith)
share_less (c ∷ set) (d ∷ others) none m n h r =
    ap (λ s. share_one s (d ∷ others)) (left_is c set) ∙ ap (λ b. b || share_one set (d ∷ others)) (sym (absent c (d ∷ others) (before_more c d others h (in_front d others r))))

pub share_greater : (set others : List Place) (none : Place) → 0 < length set → 0 < length others → place_cmp (first_of set none) (first_of others none) ≡ Greater → Rising set → share_one set (left_of others) ≡ share_one set others
share_greater [] others none m n h r = absurd (omega arith)
share_greater (c ∷ set) [] none m n h r = absurd (omega arith)
share_greater (c ∷ set) (d ∷ others) none m n h r =
    ap (share_one (c ∷ set)) (left_is d others) ∙ sym (share_behind d (c ∷ set) others (before_more d c set (less_back c d h) (in_front c set r)))

pub share_equal : (set others : List Place) (none : Place) → 0 < length set → 0 < length others → place_cmp (first_of set none) (first_of others none) ≡ Equal → share_one set others ≡ true
share_equal [] others none m n h = absurd (omega arith)
share_equal (c ∷ set) [] none m n h = absurd (omega arith)
share_equal (c ∷ set) (d ∷ others) none m n h = rw (sym (place_equal c d) ∙ ap is_eq h)

pub share_none : (set others : List Place) → length others < 1 → share_one set others ≡ false
share_none [] others h = refl
share_none (c ∷ set) [] h = share_none set [] h
share_none (c ∷ set) (d ∷ others) h = absurd (omega arith)

-- whether one of the classes is this one
pub has-any : (set : List Place) (c : Place) → list_any (λ d. is_place d c) set ≡ has set c
has-any [] c = refl
has-any (d ∷ set) c = ap (λ b. is_place d c || b) (has-any set c)

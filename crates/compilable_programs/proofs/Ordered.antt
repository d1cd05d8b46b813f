-- Names and classes in order of place: they stand apart, and the standard names first.
use Rattle.std.proofs.Common.{◌≡◌, ℕ, zero, suc, ◌+◌, ◌≤◌, ◌<◌, List, [], ◌∷◌, ◌++◌, map, length, get_or, refl, sym, subst, ap, ◌∙◌, nat_lt, nat_eq, ◌⊎◌, inl, inr, arith}
use Rattle.std.proofs.lemmas.Bool.{and_parts, or_cases, eqb-true, not-true}
use Rattle.std.proofs.lemmas.Bool.Decides.{nat_tests}
use Rattle.std.specs.Prelude.{Bool, true, false, not, ⊤, ◌||◌, ◌&&◌}
use Rattle.value_ops.specs.declared.places.Place.{Place}
use Rattle.algolw_tree.specs.declared.programs.NameInfo.{NameInfo}
use Rattle.algolw_typing.specs.Types.{is_place, is_before, has}
use Rattle.algolw_typing.specs.Programs.{inserted_by, by_place}
use Rattle.algolw_typing.specs.ProgramView.{numbered}
use Rattle.program_meaning.specs.Translating.{text_at}
use Rattle.program_soundness.specs.Tables.{Info, are_apart}
use Rattle.program_soundness.proofs.Arrays.{both_true}
use Rattle.program_soundness.proofs.Records.{place_read}
use Rattle.faultless_programs.proofs.Agreeing.{same_place, info_places}
use Rattle.compilable_programs.specs.Compiled.{AreApart}
use Rattle.compilable_programs.proofs.Binders.{weight, infos_weight}
use Rattle.compilable_programs.proofs.Suiting.{one_if, at, has_weighs}

-- ---- order keeps what places weigh

module _ {A : Type 0} (place : A → Place) (m : Place → ℕ) where
  placed_weighs : (b : Bool) (a c : A) (as_ bs : List A) → weight m (map place bs) ≡ m (place a) + weight m (map place as_) → weight m (map place (elim b [ true ↦ c ∷ bs | false ↦ a ∷ c ∷ as_ ])) ≡ m (place a) + (m (place c) + weight m (map place as_))
  placed_weighs true a c as_ bs e = omega (arith, e)
  placed_weighs false a c as_ bs e = omega arith

  inserted_weighs : (a : A) (bs : List A) → weight m (map place (inserted_by place a bs)) ≡ m (place a) + weight m (map place bs)
  inserted_weighs a [] = omega arith
  inserted_weighs a (b ∷ bs) = placed_weighs (is_before (place b) (place a)) a b bs (inserted_by place a bs) (inserted_weighs a bs)

  pub ordered_weighs : (as_ : List A) → weight m (map place (by_place place as_)) ≡ weight m (map place as_)
  ordered_weighs [] = refl
  ordered_weighs (a ∷ as_) = omega (arith, inserted_weighs a (by_place place as_), ordered_weighs as_)

-- ---- places of which no two are one

abbrev pub AtMostOnce : List Place → Type 0
AtMostOnce places = (p : Place) → weight (at p) places ≤ 1

pub itself_weighs : (p : Place) → at p p ≡ 1
itself_weighs p = ap one_if (same_place p)

item_weighs : (places : List Place) (k : ℕ) → k < length places → 1 ≤ weight (at (numbered places k)) places
item_weighs [] k h = absurd (omega (arith, h))
item_weighs (q ∷ places) zero h = omega (arith, itself_weighs q)
item_weighs (q ∷ places) (suc k) h = omega (arith, item_weighs places k (omega (arith, h)))

not_first : (q : Place) (places : List Place) (k : ℕ) → AtMostOnce (q ∷ places) → k < length places → q ≡ numbered places k → ⊥
not_first q places k o h e = omega (arith, o q, itself_weighs q, subst (λ p. 1 ≤ weight (at p) places) (sym e) (item_weighs places k h))

pub once_apart : (places : List Place) → AtMostOnce places → AreApart places
once_apart [] o n k h i e = absurd (omega (arith, h))
once_apart (q ∷ places) o zero zero h i e = refl
once_apart (q ∷ places) o zero (suc k) h i e = absurd (not_first q places k o (omega (arith, i)) e)
once_apart (q ∷ places) o (suc n) zero h i e = absurd (not_first q places n o (omega (arith, h)) (sym e))
once_apart (q ∷ places) o (suc n) (suc k) h i e = ap suc (once_apart places (λ p. omega (arith, o p)) n k (omega (arith, h)) (omega (arith, i)) e)

-- ---- declarations that are apart weigh one each

same_weight : (m : Place → ℕ) (is : List Info) → infos_weight m is ≡ weight m (info_places is)
same_weight m [] = refl
same_weight m (i ∷ is) = omega (arith, same_weight m is)

no_weight : (p : Place) (ps : List Place) → has ps p ≡ false → weight (at p) ps ≡ 0
no_weight p [] h = refl
no_weight p (q ∷ ps) h = go (is_place q p) (no_weight p ps) h
  where
    go : (b : Bool) → (has ps p ≡ false → weight (at p) ps ≡ 0) → (b || has ps p) ≡ false → one_if b + weight (at p) ps ≡ 0
    go true f h = absurd (cc h)
    go false f h = omega (arith, f h)

had_case : (p : Place) (ps : List Place) (b : Bool) → has ps p ≡ b → 1 ≤ weight (at p) ps → has ps p ≡ true
had_case p ps true e h = e
had_case p ps false e h = absurd (omega (arith, h, no_weight p ps e))

pub weighs_had : (p : Place) (ps : List Place) → 1 ≤ weight (at p) ps → has ps p ≡ true
weighs_had p ps h = had_case p ps (has ps p) refl h

not_is : (b : Bool) → not b ≡ true → b ≡ false
not_is true e = cc
not_is false e = refl

apart_case : (i : Info) (is : List Info) (p : Place) (b : Bool) → is_place i.place p ≡ b → weight (at i.place) (info_places is) ≡ 0 → infos_weight (at p) is ≤ 1 → infos_weight (at p) (i ∷ is) ≤ 1
apart_case i is p true q none more = omega (arith, ap one_if q, same_weight (at p) is, subst (λ z. weight (at z) (info_places is) ≡ 0) (place_read i.place p q) none)
apart_case i is p false q none more = omega (arith, ap one_if q, more)

pub apart_weighs : (is : List Info) → are_apart is ≡ true → (p : Place) → infos_weight (at p) is ≤ 1
apart_weighs [] e p = omega arith
apart_weighs (i ∷ is) e p =
    let parts = both_true (not (has (info_places is) i.place)) (are_apart is) e in
    apart_case i is p (is_place i.place p) refl (no_weight i.place (info_places is) (not_is (has (info_places is) i.place) parts.0)) (apart_weighs is parts.1 p)

pub nowhere_weighs : (p : Place) (is : List Info) → has (info_places is) p ≡ false → infos_weight (at p) is ≡ 0
nowhere_weighs p is h = same_weight (at p) is ∙ no_weight p (info_places is) h

-- ---- texts

front_had : (b c : Bool) → b ≡ true → (b || c) ≡ true
front_had true c e = refl
front_had false c e = cc

behind_had : (b c : Bool) → c ≡ true → (b || c) ≡ true
behind_had true c e = refl
behind_had false c e = e

-- a name is at its place
pub name_there : (names : List NameInfo) (k : ℕ) (i : NameInfo) → k < length names → get_or names k i ≡ i → has (map (λ (j : NameInfo). j.place) names) i.place ≡ true
name_there [] k i h e = absurd (omega (arith, h))
name_there (j ∷ names) zero i h e = front_had (is_place j.place i.place) (has (map (λ (n : NameInfo). n.place) names) i.place) (ap (λ (n : NameInfo). is_place n.place i.place) e ∙ same_place i.place)
name_there (j ∷ names) (suc k) i h e = behind_had (is_place j.place i.place) (has (map (λ (n : NameInfo). n.place) names) i.place) (name_there names k i (omega (arith, h)) e)

text_case : (b : Bool) (j : NameInfo) (t u : List ℕ) → (b ≡ true → ⊥) → t ≡ u → (elim b [ true ↦ j.name | false ↦ t ]) ≡ u
text_case true j t u n e = absurd (n refl)
text_case false j t u n e = e

-- the text of a name that stands apart
pub text_found : (names : List NameInfo) (k : ℕ) (i : NameInfo) → AtMostOnce (map (λ (j : NameInfo). j.place) names) → k < length names → get_or names k i ≡ i → text_at names i.place ≡ i.name
text_found [] k i o h e = absurd (omega (arith, h))
text_found (j ∷ names) zero i o h e = ap (λ b. elim b [ true ↦ j.name | false ↦ text_at names i.place ]) (ap (λ (n : NameInfo). is_place n.place i.place) e ∙ same_place i.place) ∙ ap (λ (n : NameInfo). n.name) e
text_found (j ∷ names) (suc k) i o h e =
    let more = text_found names k i (λ p. omega (arith, o p)) (omega (arith, h)) e in
    text_case (is_place j.place i.place) j (text_at names i.place) i.name
    (λ b. omega (arith, o i.place, ap one_if b, has_weighs i.place (map (λ (n : NameInfo). n.place) names) (name_there names k i (omega (arith, h)) e))) more

-- ---- what stands on cards stands behind the standard names

less_than_none : (m n : ℕ) → n ≡ 0 → nat_lt m n ≡ true → m ≡ 0
less_than_none m n e h = let less : m < n = grind (arith, nat_tests) in absurd (omega (arith, less, e))

same_number : (m n : ℕ) → n ≡ 0 → nat_eq m n ≡ true → m ≡ 0
same_number m n e h = eqb-true m n h ∙ e

-- before what stands on no card stands what stands on none
before_none : (p q : Place) → q.card ≡ 0 → is_before p q ≡ true → p.card ≡ 0
before_none p q e h = go (or_cases (nat_lt p.card q.card) (nat_eq p.card q.card && nat_lt p.column q.column) h)
  where
    go : (nat_lt p.card q.card ≡ true) ⊎ ((nat_eq p.card q.card && nat_lt p.column q.column) ≡ true) → p.card ≡ 0
    go (inl less) = less_than_none p.card q.card e less
    go (inr same) = same_number p.card q.card e (and_parts (nat_eq p.card q.card) (nat_lt p.column q.column) same).0

-- each of them stands on a card
abbrev pub AllOnCards : List NameInfo → Type 0
AllOnCards [] = ⊤
AllOnCards (i ∷ is) = (i.place.card ≡ 0 → ⊥) × AllOnCards is

-- those of places on no card weigh nothing
pub all_on_cards : (is : List NameInfo) → ((p : Place) → p.card ≡ 0 → weight (at p) (map (λ (i : NameInfo). i.place) is) ≡ 0) → AllOnCards is
all_on_cards [] h = tt
all_on_cards (i ∷ is) h = (λ e. omega (arith, h i.place e, itself_weighs i.place), all_on_cards is (λ p e. omega (arith, h p e)))

in_front : (b : Bool) (i j : NameInfo) (is js : List NameInfo) → (b ≡ true → ⊥) → (elim b [ true ↦ j ∷ js | false ↦ i ∷ j ∷ is ]) ≡ i ∷ j ∷ is
in_front true i j is js h = absurd (h refl)
in_front false i j is js h = refl

-- what stands on no card is put in front of them
put_in_front : (i : NameInfo) (is : List NameInfo) → i.place.card ≡ 0 → AllOnCards is → inserted_by (λ j. j.place) i is ≡ i ∷ is
put_in_front i [] e h = refl
put_in_front i (j ∷ is) e h = in_front (is_before j.place i.place) i j is (inserted_by (λ j. j.place) i is) (λ b. h.0 (before_none j.place i.place e b))

-- names on no card, each of which the next isn't before
abbrev pub are_leading : List NameInfo → Bool
are_leading [] = true
are_leading (i ∷ []) = nat_eq i.place.card 0
are_leading (i ∷ j ∷ names) = not (is_before j.place i.place) && are_leading (j ∷ names)

-- they stay as they are, in front of those on cards
pub leading_first : (names is : List NameInfo) → are_leading names ≡ true → AllOnCards (by_place (λ j. j.place) is) → by_place (λ j. j.place) (names ++ is) ≡ names ++ by_place (λ j. j.place) is
leading_first [] is e h = refl
leading_first (i ∷ []) is e h = put_in_front i (by_place (λ j. j.place) is) (eqb-true i.place.card 0 e) h
leading_first (i ∷ j ∷ names) is e h =
    let both = both_true (not (is_before j.place i.place)) (are_leading (j ∷ names)) e in
    let behind = names ++ by_place (λ k. k.place) is in
    ap (inserted_by (λ k. k.place) i) (leading_first (j ∷ names) is both.1 h)
    ∙ in_front (is_before j.place i.place) i j behind (inserted_by (λ k. k.place) i behind) (λ b. let n = not-true (is_before j.place i.place) both.0 in cc)

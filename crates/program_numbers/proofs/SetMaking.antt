-- The number of a set that is added to a table.
use Rattle.std.proofs.Common.{◌≡◌, ◌==◌, ℕ, suc, ◌<◌, ◌≤◌, Bool, true, false, cond, nat_lt, List, [], ◌∷◌, ◌++◌, map, length, get_or, refl, sym, ap, subst, ◌∙◌, arith, inl, inr, length-append, Result, Ok, Err}
use Rattle.std.proofs.lemmas.Bool.{eqb-true, and_parts, or_cases, or_left, or_right}
use Rattle.std.proofs.lemmas.Bool.Decides.{nat_tests}
use Rattle.std.proofs.lemmas.List.{get_or_append_left, get_or_push, get_or-map, length_push}
use Rattle.std.proofs.lemmas.List.Elements.{All-push}
use Rattle.std.specs.Result.{IfOk, OnOk}
use Rattle.value_ops.specs.declared.places.Place.{Place}
use Rattle.value_ops.specs.declared.values.ClassId.{ClassId}
use Rattle.value_ops.specs.declared.values.SetId.{SetId}
use Rattle.record_classes.specs.Classes.{Classes, number_of, with_set, is_same_set, is_within}
use Rattle.record_classes.specs.Classes as ids
use Rattle.algolw_typing.specs.ProgramView.{numbered, nowhere_set, set_view}
use Rattle.algolw_typing.specs.Types.{has, is_place}
use Rattle.typing_rules.specs.ClassSets.{Rising}
use Rattle.typing_rules.proofs.Unions.{one_list}
use Rattle.program_numbers.specs.Makes.{Sets, Follows, HasMembers, AreSets, Makes, numbers_in, places_in}
use Rattle.program_numbers.specs.declared.numbering.Numbering.{Numbering}
use Rattle.program_numbers.proofs.Making.{follows_itself}
use Rattle.typing_rules.proofs.Sets.{same_place, place_itself}

same_class : (c d : ClassId) → (c.0 == d.0) ≡ true → c ≡ d
same_class c d h = ap {B = ClassId} (λ (n : ℕ). record { 0 = n }) (eqb-true c.0 d.0 h)

found_at : (same : Bool) (s a : List ClassId) (sets : Sets) (n : ℕ) → is_same_set s a ≡ same → (n < length sets → is_same_set (get_or sets n []) a ≡ true)
    → cond same 0 (suc n) < suc (length sets) → is_same_set (get_or (s ∷ sets) (cond same 0 (suc n)) []) a ≡ true
found_at true s a sets n is more h = is
found_at false s a sets n is more h = more (omega arith)

-- the set at a number is equal
at_number : (sets : Sets) (a : List ClassId) → number_of sets a < length sets → is_same_set (get_or sets (number_of sets a) []) a ≡ true
at_number [] a h = absurd (omega arith)
at_number (s ∷ sets) a h = found_at (is_same_set s a) s a sets (number_of sets a) refl (at_number sets a) h

le_step : (same : Bool) (n m : ℕ) → n ≤ m → cond same 0 (suc n) ≤ suc m
le_step true n m h = omega arith
le_step false n m h = omega arith

number_of-le : (sets : Sets) (a : List ClassId) → number_of sets a ≤ length sets
number_of-le [] a = omega arith
number_of-le (s ∷ sets) a = le_step (is_same_set s a) (number_of sets a) (length sets) (number_of-le sets a)

had_image : (g : ClassId → Place) (b : List ClassId) (c : ClassId) → ids.has b c ≡ true → has (map g b) (g c) ≡ true
had_image g [] c h = cc
had_image g (d ∷ b) c h = elim (or_cases (d.0 == c.0) (ids.has b c) h) [
  | inl here ↦ or_left (is_place (g d) (g c)) (has (map g b) (g c)) (ap (λ e. is_place (g d) (g e)) (sym (same_class d c here)) ∙ place_itself (g d))
  | inr there ↦ or_right (is_place (g d) (g c)) (has (map g b) (g c)) (had_image g b c there)
]

-- what is seen of a set within another is within what is seen of that
within_has : (g : ClassId → Place) (a b : List ClassId) (p : Place) → is_within a b ≡ true → has (map g a) p ≡ true → has (map g b) p ≡ true
within_has g [] b p within h = cc
within_has g (c ∷ a) b p within h =
    let parts = and_parts (ids.has b c) (is_within a b) within in
    elim (or_cases (is_place (g c) p) (has (map g a) p) h) [
      | inl here ↦ ap (has (map g b)) (sym (same_place (g c) p here)) ∙ had_image g b c parts.0
      | inr there ↦ within_has g a b p parts.1 there
    ]

both_ways : (a b : Bool) → (a ≡ true → b ≡ true) → (b ≡ true → a ≡ true) → a ≡ b
both_ways true b f g = sym (f refl)
both_ways false true f g = g refl
both_ways false false f g = refl

-- equal sets that rise are seen as one list
pub seen_alike : (g : ClassId → Place) (a b : List ClassId) → is_same_set a b ≡ true → Rising (map g a) → Rising (map g b) → map g a ≡ map g b
seen_alike g a b same r s =
    let parts = and_parts (is_within a b) (is_within b a) same in
    one_list (map g a) (map g b) r s (λ p. both_ways (has (map g a) p) (has (map g b) p) (within_has g a b p parts.0) (within_has g b a p parts.1))

-- the set at a number, seen in any later table
pub seen_later : (n : Numbering) (sets later : Sets) (s : ℕ) (places : List Place) → s < length sets → (Rising (places_in n.classes (get_or sets s [])) → places_in n.classes (get_or sets s []) ≡ places)
    → Follows sets later → AreSets n.classes later → set_view (numbers_in n later) s ≡ places
seen_later n sets later s places within is f r =
    let inside : s < length later = omega (arith, ap length f.is, length-append sets f.more) in
    let held : get_or later s [] ≡ get_or sets s [] = ap (λ xs. get_or xs s []) f.is ∙ get_or_append_left sets f.more [] s within in
    get_or-map (places_in n.classes) later s [] nowhere_set inside
    ∙ ap (places_in n.classes) held
    ∙ is (subst (λ set. Rising (places_in n.classes set)) held (r.rise s [] inside))

sets_more : (classes : List Place) (sets : Sets) (a : List ClassId) → Rising (places_in classes a) → HasMembers classes a → AreSets classes sets → AreSets classes (sets ++ a ∷ [])
sets_more classes sets a rising members r = record {
  rise = All-push (λ (set : List ClassId). Rising (places_in classes set)) sets a r.rise rising;
  members = All-push (HasMembers classes) sets a r.members members;
}

made_by : (there : Bool) (n : Numbering) (t : Classes) (a : List ClassId) (s : ℕ) (places : List Place) → nat_lt (number_of t.sets a) (length t.sets) ≡ there → s ≡ number_of t.sets a → places_in n.classes a ≡ places → HasMembers n.classes a → Rising places
    → Makes n t (cond there t (record t { sets = t.sets ++ a ∷ [] })) (λ ns. set_view ns s) places
made_by true n t a s places there e is members rising =
    let found : number_of t.sets a < length t.sets = grind (arith, nat_tests) in
    let same : is_same_set (get_or t.sets s []) a ≡ true = ap (λ m. is_same_set (get_or t.sets m []) a) e ∙ at_number t.sets a found in
    record {
      classes = refl;
      follows = follows_itself t.sets;
      sets = λ r. r;
      means = λ later f r. seen_later n t.sets later s places (omega (arith, e, found)) (λ up. seen_alike (λ c. numbered n.classes c.0) (get_or t.sets s []) a same up (subst Rising (sym is) rising) ∙ is) f r;
    }
made_by false n t a s places there e is members rising =
    let past : length t.sets ≤ number_of t.sets a = grind (arith, nat_tests) in
    let last : length t.sets ≡ s = omega (arith, number_of-le t.sets a) in
    record {
      classes = refl;
      follows = record { more = a ∷ []; is = refl };
      sets = sets_more n.classes t.sets a (subst Rising (sym is) rising) members;
      means = λ later f r. seen_later n (t.sets ++ a ∷ []) later s places (omega (arith, last, length_push t.sets a)) (λ up. ap (places_in n.classes) (get_or_push t.sets a [] s last) ∙ is) f r;
    }

-- a set that is added is seen by its number in each later table
pub set_made : (n : Numbering) (t : Classes) (a : List ClassId) (s : SetId) (places : List Place) → s.0 ≡ number_of t.sets a → places_in n.classes a ≡ places → HasMembers n.classes a → Rising places → Makes n t (with_set t a) (λ ns. set_view ns s.0) places
set_made n t a s places e is members rising = made_by (nat_lt (number_of t.sets a) (length t.sets)) n t a s.0 places refl e is members rising

pub set_answered : {E : Type 0} (n : Numbering) (t u : Classes) (a : List ClassId) (places : List Place) (r : Result SetId E) → IfOk r (λ s. s.0 ≡ number_of t.sets a) → OnOk r (u ≡ with_set t a) → places_in n.classes a ≡ places → HasMembers n.classes a → Rising places
    → IfOk r (λ s. Makes n t u (λ ns. set_view ns s.0) places)
set_answered n t u a places (Err e) number added is members rising = tt
set_answered n t u a places (Ok s) number added is members rising = subst (λ v. Makes n t v (λ ns. set_view ns s.0) places) (sym added) (set_made n t a s places number is members rising)

-- a set that the table has is seen by its number in each later table
pub set_known : (n : Numbering) (t : Classes) (s : ℕ) (places : List Place) → s < length t.sets → places_in n.classes (get_or t.sets s []) ≡ places → Makes n t t (λ ns. set_view ns s) places
set_known n t s places within is = record {
  classes = refl;
  follows = follows_itself t.sets;
  sets = λ r. r;
  means = λ later f r. seen_later n t.sets later s places within (λ up. is) f r;
}

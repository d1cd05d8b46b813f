-- Declarations of a tree that stand apart, and their parts.
use Rattle.std.proofs.Common.{◌≡◌, List, [], ◌∷◌, ◌++◌, map, Bool, true, false, not, ◌&&◌, ◌||◌, refl, sym, ◌∙◌, subst}
use Rattle.std.specs.List.{All}
use Rattle.std.proofs.lemmas.Bool.{false≢true}
use Rattle.std.proofs.lemmas.List.{map-append}
use Rattle.std.proofs.lemmas.List.Elements.{All-cons, All-nil}
use Rattle.value_ops.specs.declared.places.Place.{Place}
use Rattle.algolw_typing.specs.Types.{has, is_place}
use Rattle.program_soundness.specs.Tables.{Info, are_apart}
use Rattle.program_soundness.proofs.Arrays.{both_true}
use Rattle.faultless_programs.proofs.Agreeing.{same_place}
use Rattle.symbol_table.specs.Contexts.{AreFresh, Scene, places_of}
use Rattle.symbol_table.proofs.Declaring.{All-left, All-right}
use Rattle.symbol_table.proofs.Places.{other_place}

abbrev pub info_places : List Info → List Place
info_places is = map (λ (i : Info). i.place) is

-- ---- tests

pub not_true : (b : Bool) → not b ≡ true → b ≡ false
not_true true e = absurd (false≢true e)
not_true false e = refl

pub or_false : (a b : Bool) → a ≡ false → b ≡ false → (a || b) ≡ false
or_false true b e f = absurd (false≢true (sym e))
or_false false b e f = f

pub neither : (a b : Bool) → (a || b) ≡ false → (a ≡ false) × (b ≡ false)
neither true b e = absurd (false≢true (sym e))
neither false b e = (refl, e)

both : (a b : Bool) → a ≡ true → b ≡ true → (a && b) ≡ true
both true b e f = f
both false b e f = absurd (false≢true e)

pub is_not : (b : Bool) → b ≡ false → not b ≡ true
is_not true e = absurd (false≢true (sym e))
is_not false e = refl

-- ---- places

pub had_in_neither : (a b : List Place) (p : Place) → has (a ++ b) p ≡ false → (has a p ≡ false) × (has b p ≡ false)
had_in_neither [] b p e = (refl, e)
had_in_neither (q ∷ a) b p e =
    let h = neither (is_place q p) (has (a ++ b) p) e in
    let r = had_in_neither a b p h.1 in
    (or_false (is_place q p) (has a p) h.0 r.0, r.1)

pub had_in_none : (a b : List Place) (p : Place) → has a p ≡ false → has b p ≡ false → has (a ++ b) p ≡ false
had_in_none [] b p e f = f
had_in_none (q ∷ a) b p e f =
    let h = neither (is_place q p) (has a p) e in
    or_false (is_place q p) (has (a ++ b) p) h.0 (had_in_none a b p h.1 f)

other_way : (p q : Place) → is_place p q ≡ false → is_place q p ≡ false
other_way p q e = other_place q p (λ s. false≢true (sym e ∙ subst (λ r. is_place p r ≡ true) (sym s) (same_place p)))

-- ---- declarations

pub apart_left : (a b : List Info) → are_apart (a ++ b) ≡ true → are_apart a ≡ true
apart_left [] b e = refl
apart_left (i ∷ a) b e =
    let h = both_true (not (has (info_places (a ++ b)) i.place)) (are_apart (a ++ b)) e in
    let none = had_in_neither (info_places a) (info_places b) i.place (subst (λ ps. has ps i.place ≡ false) (map-append (λ (j : Info). j.place) a b) (not_true (has (info_places (a ++ b)) i.place) h.0)) in
    both (not (has (info_places a) i.place)) (are_apart a) (is_not (has (info_places a) i.place) none.0) (apart_left a b h.1)

pub apart_right : (a b : List Info) → are_apart (a ++ b) ≡ true → are_apart b ≡ true
apart_right [] b e = e
apart_right (i ∷ a) b e = apart_right a b (both_true (not (has (info_places (a ++ b)) i.place)) (are_apart (a ++ b)) e).1

-- a place that none of them has
not_theirs : (is : List Info) (p : Place) → has (info_places is) p ≡ false → All (λ (j : Info). is_place j.place p ≡ false) is
not_theirs [] p e = All-nil (λ (j : Info). is_place j.place p ≡ false)
not_theirs (i ∷ is) p e =
    let h = neither (is_place i.place p) (has (info_places is) p) e in
    All-cons (λ (j : Info). is_place j.place p ≡ false) i is h.0 (not_theirs is p h.1)

-- those behind are not among those in front
pub apart_between : (a b : List Info) → are_apart (a ++ b) ≡ true → All (λ (j : Info). has (info_places a) j.place ≡ false) b
apart_between [] b e = λ k d l. refl
apart_between (i ∷ a) b e =
    let h = both_true (not (has (info_places (a ++ b)) i.place)) (are_apart (a ++ b)) e in
    let none = had_in_neither (info_places a) (info_places b) i.place (subst (λ ps. has ps i.place ≡ false) (map-append (λ (j : Info). j.place) a b) (not_true (has (info_places (a ++ b)) i.place) h.0)) in
    let first = not_theirs b i.place none.1 in
    let rest = apart_between a b h.1 in
    λ k d l. or_false _ _ (other_way _ i.place (first k d l)) (rest k d l)

-- ---- the laws

pub fresh_left : (s : Scene) (a b : List Info) → AreFresh s (a ++ b) → AreFresh s a
fresh_left s a b f = record { apart = apart_left a b f.apart; new = All-left (λ (i : Info). has (places_of s s.symbols.names) i.place ≡ false) a b f.new }

pub fresh_right : (s : Scene) (a b : List Info) → AreFresh s (a ++ b) → AreFresh s b
fresh_right s a b f = record { apart = apart_right a b f.apart; new = All-right (λ (i : Info). has (places_of s s.symbols.names) i.place ≡ false) a b f.new }

-- behind declarations that are declared
pub fresh_inside : (s t : Scene) (a b : List Info) → places_of t t.symbols.names ≡ info_places a ++ places_of s s.symbols.names → AreFresh s (a ++ b) → AreFresh t b
fresh_inside s t a b e f =
    let between = apart_between a b f.apart in
    let news = All-right (λ (i : Info). has (places_of s s.symbols.names) i.place ≡ false) a b f.new in
    record {
      apart = apart_right a b f.apart;
      new = subst (λ ps. All (λ (i : Info). has ps i.place ≡ false) b) (sym e) (λ k d l. had_in_none (info_places a) (places_of s s.symbols.names) _ (between k d l) (news k d l));
    }

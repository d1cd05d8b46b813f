-- Lists of places that are one list in order of place.
use Rattle.std.proofs.Common.{◌≡◌, Bool, true, false, List, [], ◌∷◌, ◌++◌, refl, sym, ap, subst, ◌∙◌, arith}
use Rattle.std.proofs.lemmas.Bool.Decides.{nat_tests}
use Rattle.value_ops.specs.declared.places.Place.{Place}
use Rattle.algolw_typing.specs.Programs.{inserted_by, by_place}
use Rattle.algolw_typing.specs.Types.{is_before, is_place}
use Rattle.typing_rules.proofs.Sets.{same_place}

abbrev put : Place → List Place → List Place
put a xs = inserted_by (λ p. p) a xs

one_way : (a b : Place) → is_before b a ≡ true → is_before a b ≡ false
one_way a b h = grind (arith, nat_tests)

between : (a b c : Place) → is_before c b ≡ true → is_before c a ≡ false → is_before a b ≡ true
between a b c h k = grind (arith, nat_tests)

level : (a b : Place) → is_before b a ≡ false → is_before a b ≡ false → is_place a b ≡ true
level a b h k = grind (arith, nat_tests)

put_behind : (a b : Place) (bs : List Place) → is_before b a ≡ true → put a (b ∷ bs) ≡ b ∷ put a bs
put_behind a b bs h = ap (λ t. elim t as (λ u. List Place) [ true ↦ b ∷ put a bs | false ↦ a ∷ b ∷ bs ]) h

put_before : (a b : Place) (bs : List Place) → is_before b a ≡ false → put a (b ∷ bs) ≡ a ∷ b ∷ bs
put_before a b bs h = ap (λ t. elim t as (λ u. List Place) [ true ↦ b ∷ put a bs | false ↦ a ∷ b ∷ bs ]) h

-- two that stand in front of the others
pair : (a b : Place) (xs : List Place) → put a xs ≡ a ∷ xs → put b xs ≡ b ∷ xs → put a (b ∷ xs) ≡ put b (a ∷ xs)
pair a b xs first second = by (is_before b a) (is_before a b) refl refl
  where
    by : (s t : Bool) → is_before b a ≡ s → is_before a b ≡ t → put a (b ∷ xs) ≡ put b (a ∷ xs)
    by true t h k = put_behind a b xs h ∙ ap (λ zs. b ∷ zs) first ∙ sym (put_before b a xs (one_way a b h))
    by false true h k = put_before a b xs h ∙ sym (put_behind b a xs k ∙ ap (λ zs. a ∷ zs) second)
    by false false h k = subst (λ c. put a (c ∷ xs) ≡ put c (a ∷ xs)) (same_place a b (level a b h k)) refl

-- it doesn't matter which of two is put in place first
commute : (a b : Place) (xs : List Place) → put a (put b xs) ≡ put b (put a xs)
commute a b [] = pair a b [] refl refl
commute a b (c ∷ cs) = by (is_before c a) (is_before c b) refl refl (commute a b cs)
  where
    by : (s t : Bool) → is_before c a ≡ s → is_before c b ≡ t → put a (put b cs) ≡ put b (put a cs) → put a (put b (c ∷ cs)) ≡ put b (put a (c ∷ cs))
    by true true h k e =
        ap (put a) (put_behind b c cs k) ∙ put_behind a c (put b cs) h ∙ ap (λ zs. c ∷ zs) e
        ∙ sym (ap (put b) (put_behind a c cs h) ∙ put_behind b c (put a cs) k)
    by false true h k e =
        ap (put a) (put_behind b c cs k) ∙ put_before a c (put b cs) h
        ∙ sym (ap (put b) (put_before a c cs h) ∙ put_behind b a (c ∷ cs) (between a b c k h) ∙ ap (λ zs. a ∷ zs) (put_behind b c cs k))
    by true false h k e =
        ap (put a) (put_before b c cs k) ∙ put_behind a b (c ∷ cs) (between b a c h k) ∙ ap (λ zs. b ∷ zs) (put_behind a c cs h)
        ∙ sym (ap (put b) (put_behind a c cs h) ∙ put_before b c (put a cs) k)
    by false false h k e =
        ap (put a) (put_before b c cs k) ∙ pair a b (c ∷ cs) (put_before a c cs h) (put_before b c cs k) ∙ sym (ap (put b) (put_before a c cs h))

-- all of these put in place among others
abbrev put_all : List Place → List Place → List Place
put_all [] zs = zs
put_all (x ∷ xs) zs = put x (put_all xs zs)

all_put : (xs : List Place) → by_place (λ p. p) xs ≡ put_all xs []
all_put [] = refl
all_put (x ∷ xs) = ap (put x) (all_put xs)

put_append : (xs ys zs : List Place) → put_all (xs ++ ys) zs ≡ put_all xs (put_all ys zs)
put_append [] ys zs = refl
put_append (x ∷ xs) ys zs = ap (put x) (put_append xs ys zs)

put_through : (p : Place) (xs zs : List Place) → put_all xs (put p zs) ≡ put p (put_all xs zs)
put_through p [] zs = refl
put_through p (x ∷ xs) zs = ap (put x) (put_through p xs zs) ∙ commute x p (put_all xs zs)

-- These are the same places, each as often.
abbrev pub Alike : List Place → List Place → Type 0
Alike xs ys = (zs : List Place) → put_all xs zs ≡ put_all ys zs

pub alike_sorted : (xs ys : List Place) → Alike xs ys → by_place (λ p. p) xs ≡ by_place (λ p. p) ys
alike_sorted xs ys h = all_put xs ∙ h [] ∙ sym (all_put ys)

pub alike_both : (xs xs' ys ys' : List Place) → Alike xs xs' → Alike ys ys' → Alike (xs ++ ys) (xs' ++ ys')
alike_both xs xs' ys ys' h k zs = put_append xs ys zs ∙ h (put_all ys zs) ∙ ap (put_all xs') (k zs) ∙ sym (put_append xs' ys' zs)

-- the last in front
pub alike_front : (xs ys : List Place) (p : Place) → Alike xs ys → Alike (xs ++ p ∷ []) (p ∷ ys)
alike_front xs ys p h zs = put_append xs (p ∷ []) zs ∙ put_through p xs zs ∙ ap (put p) (h zs)

-- Sets of record classes by number, and by the places of their classes.
use Rattle.std.proofs.Common.{◌≡◌, ℕ, zero, suc, ◌<◌, Bool, true, false, nat_eq, ◌&&◌, ◌||◌, List, [], ◌∷◌, length, map, refl, sym, ap, ◌∙◌, subst, arith}
use lib.Pointwise.{pointwise}
use Rattle.std.specs.Prelude.{slice_index_or, ◌==◌}
use Rattle.std.specs.List.{All, list_any}
use Rattle.std.proofs.lemmas.List.Elements.{All-head, All-tail}
use Rattle.std.proofs.lemmas.Bool.Decides.{nat_tests}
use Rattle.value_ops.specs.declared.places.Place.{Place}
use Rattle.value_ops.specs.declared.values.ClassId.{ClassId}
use Rattle.value_ops.specs.declared.values.SetId.{SetId}
use Rattle.record_classes.specs.Classes as classes
use Rattle.record_classes.specs.Classes.{set_of}
use Rattle.algolw_typing.specs.Types as types
use Rattle.algolw_typing.specs.Types.{is_place}
use Rattle.algolw_typing.specs.ProgramView.{numbered, set_view, nowhere_set}
use Rattle.stack_code.specs.CodeView.{Given, GivenFits, numbers}

-- where a class is declared
abbrev pub place : Given → ClassId → Place
place g c = numbered g.class_places c.0

abbrev pub InRange : Given → ClassId → Type 0
InRange g c = c.0 < length g.class_places

pub or_mapped : {A B : Type 0} (f : A → B) (xs : List A) (n : ℕ) (a : A) (b : B) → n < length xs → slice_index_or (map f xs) n b ≡ f (slice_index_or xs n a)
or_mapped f [] n a b h = absurd (omega (arith, h))
or_mapped f (x ∷ xs) zero a b h = refl
or_mapped f (x ∷ xs) (suc n) a b h = or_mapped f xs n a b (omega (arith, h))

-- a set is the places of its classes
pub set_is : (g : Given) (s : SetId) → s.0 < length g.classes.sets → set_view (numbers g) s.0 ≡ map (place g) (set_of g.classes s)
set_is g s h = or_mapped (map (place g)) g.classes.sets s.0 [] nowhere_set h

-- its classes are there
pub members_in : (g : Given) → GivenFits g → (s : SetId) → s.0 < length g.classes.sets → All (InRange g) (set_of g.classes s)
members_in g f s h = f.members s.0 [] h

eq_refl : (n : ℕ) → nat_eq n n ≡ true
eq_refl n = grind (arith, nat_tests)

is_place_refl : (p : Place) → is_place p p ≡ true
is_place_refl p = ap (λ b. b && nat_eq p.column p.column) (eq_refl p.card) ∙ eq_refl p.column

same_from : (b c : Bool) → (b ≡ true → c ≡ true) → (c ≡ true → b ≡ true) → b ≡ c
same_from true c f h = sym (f refl)
same_from false true f h = h refl
same_from false false f h = refl

eq_of : (m n : ℕ) → nat_eq m n ≡ true → m ≡ n
eq_of m n h = grind (arith, nat_tests)

-- classes are one where their places are
pub one_place : (g : Given) → GivenFits g → (c d : ClassId) → InRange g c → InRange g d → is_place (place g c) (place g d) ≡ nat_eq c.0 d.0
one_place g f c d hc hd =
    same_from (is_place (place g c) (place g d)) (nat_eq c.0 d.0) (λ e. subst (λ n. nat_eq c.0 n ≡ true) (f.apart c.0 d.0 hc hd e) (eq_refl c.0))
    (λ e. subst (λ n. is_place (place g c) (numbered g.class_places n) ≡ true) (eq_of c.0 d.0 e) (is_place_refl (place g c)))

-- a set has a class where it has its place
pub has_is : (g : Given) → GivenFits g → (xs : List ClassId) (c : ClassId) → All (InRange g) xs → InRange g c → types.has (map (place g) xs) (place g c) ≡ classes.has xs c
has_is g f [] c hs hc = refl
has_is g f (d ∷ xs) c hs hc = ap (λ b. b || types.has (map (place g) xs) (place g c)) (one_place g f d c (All-head (InRange g) d xs hs) hc) ∙ ap (λ b. nat_eq d.0 c.0 || b) (has_is g f xs c (All-tail (InRange g) d xs hs) hc)

-- some class of one is in another
abbrev pub shares : List ClassId → List ClassId → Bool
shares xs ys = list_any (λ c. classes.has ys c) xs

pub shares_is : (g : Given) → GivenFits g → (xs ys : List ClassId) → All (InRange g) xs → All (InRange g) ys → types.share_one (map (place g) xs) (map (place g) ys) ≡ shares xs ys
shares_is g f [] ys hx hy = refl
shares_is g f (c ∷ xs) ys hx hy = ap (λ b. b || types.share_one (map (place g) xs) (map (place g) ys)) (has_is g f ys c hy (All-head (InRange g) c xs hx)) ∙ ap (λ b. classes.has ys c || b) (shares_is g f xs ys (All-tail (InRange g) c xs hx) hy)

-- the same classes in the same order
abbrev pub same_classes : List ClassId → List ClassId → Bool
same_classes [] [] = true
same_classes (c ∷ xs) (d ∷ ys) = nat_eq c.0 d.0 && same_classes xs ys
same_classes xs ys = false

pub same_is : (g : Given) → GivenFits g → (xs ys : List ClassId) → All (InRange g) xs → All (InRange g) ys → types.is_same_set (map (place g) xs) (map (place g) ys) ≡ same_classes xs ys
same_is g f [] [] hx hy = refl
same_is g f [] (d ∷ ys) hx hy = refl
same_is g f (c ∷ xs) [] hx hy = refl
same_is g f (c ∷ xs) (d ∷ ys) hx hy = ap (λ b. b && types.is_same_set (map (place g) xs) (map (place g) ys)) (one_place g f c d (All-head (InRange g) c xs hx) (All-head (InRange g) d ys hy)) ∙ ap (λ b. nat_eq c.0 d.0 && b) (same_is g f xs ys (All-tail (InRange g) c xs hx) (All-tail (InRange g) d ys hy))

-- ---- types that are references

abbrev pub empty_list : List ClassId → Bool
empty_list [] = true
empty_list (x ∷ xs) = false

pub fits_is : (g : Given) → GivenFits g → (a b : SetId) → a.0 < length g.classes.sets → b.0 < length g.classes.sets → types.fits (types.Reference (set_view (numbers g) a.0)) (types.Reference (set_view (numbers g) b.0)) ≡ (types.is_empty (map (place g) (set_of g.classes a)) || shares (set_of g.classes a) (set_of g.classes b))
fits_is g f a b ha hb =
    ap (λ s. types.is_empty s || types.share_one s (set_view (numbers g) b.0)) (set_is g a ha)
    ∙ ap (λ t. types.is_empty (map (place g) (set_of g.classes a)) || types.share_one (map (place g) (set_of g.classes a)) t) (set_is g b hb)
    ∙ ap (λ c. types.is_empty (map (place g) (set_of g.classes a)) || c) (shares_is g f (set_of g.classes a) (set_of g.classes b) (members_in g f a ha) (members_in g f b hb))

pub same_types : (g : Given) → GivenFits g → (a b : SetId) → a.0 < length g.classes.sets → b.0 < length g.classes.sets → types.is_same (types.Reference (set_view (numbers g) a.0)) (types.Reference (set_view (numbers g) b.0)) ≡ same_classes (set_of g.classes a) (set_of g.classes b)
same_types g f a b ha hb =
    ap (λ s. types.is_same_set s (set_view (numbers g) b.0)) (set_is g a ha)
    ∙ ap (λ t. types.is_same_set (map (place g) (set_of g.classes a)) t) (set_is g b hb)
    ∙ same_is g f (set_of g.classes a) (set_of g.classes b) (members_in g f a ha) (members_in g f b hb)

pub empty_is : (g : Given) (xs : List ClassId) → types.is_empty (map (place g) xs) ≡ empty_list xs
empty_is g [] = refl
empty_is g (x ∷ xs) = refl

-- compared one by one
pub pointwise_is : (f : ClassId → ClassId → Bool) → ((a b : ClassId) → f a b ≡ nat_eq a.0 b.0) → (xs ys : List ClassId) → pointwise f xs ys ≡ same_classes xs ys
pointwise_is f h [] [] = refl
pointwise_is f h [] (y ∷ ys) = refl
pointwise_is f h (x ∷ xs) [] = refl
pointwise_is f h (x ∷ xs) (y ∷ ys) = ap (λ b. b && pointwise f xs ys) (h x y) ∙ ap (λ b. nat_eq x.0 y.0 && b) (pointwise_is f h xs ys)

pub not_empty : (xs : List ClassId) → (length xs == 0) ≡ false → empty_list xs ≡ false
not_empty [] e = e
not_empty (x ∷ xs) e = refl

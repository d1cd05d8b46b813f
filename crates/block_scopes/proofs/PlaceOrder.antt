-- The order of places, and that of diagnostics.
use Rattle.std.proofs.Common.{◌≡◌, Bool, true, false, cond, not, List, [], ◌∷◌, map, refl, sym, ap, ◌∙◌, arith}
use Rattle.std.proofs.lemmas.Bool.Decides.{nat_tests}
use Rattle.std.proofs.lemmas.Cmp.{on_total, then_total, nat_cmp_total}
use Rattle.std.proofs.lemmas.List.Sorted.{ranks_by}
use Rattle.std.specs.Cmp.{IsTotalOrder}
use Rattle.std.specs.List.Sorted.{IsSortedBy, IsStableBy}
use Rattle.std.specs.Ordering.{is_lt}
use Rattle.value_ops.specs.declared.places.Place.{Place}
use Rattle.value_ops.specs.declared.places.Diagnostic.{Diagnostic}
use Rattle.algolw_typing.specs.Types.{is_before}
use Rattle.typing_rules.proofs.Sets.{place_total, place_less}
use Rattle.algolw_typing.specs.Laws.{place_cmp, diagnostic_cmp}
use Rattle.algolw_typing.specs.Faults.{is_in_front, inserted, in_order}
use Rattle.algolw_typing.specs.Programs.{inserted_by, by_place}
use Rattle.block_scopes.proofs.StableSorts.{put, put_all, stable_is_put}

pub diagnostic_total : IsTotalOrder diagnostic_cmp
diagnostic_total = then_total (on_total (λ (d : Diagnostic). d.place) place_total) (on_total (λ (d : Diagnostic). d.number) nat_cmp_total)

not_in_front : (d e : Diagnostic) → is_lt (diagnostic_cmp e d) ≡ not (is_in_front d e)
not_in_front d e = grind (arith, nat_tests)

as_cond : {A : Type 0} (t : Bool) (x y : A) → (elim t as (λ b. A) [ true ↦ x | false ↦ y ]) ≡ cond t x y
as_cond true x y = refl
as_cond false x y = refl

as_cond_not : {A : Type 0} (t : Bool) (x y : A) → (elim t as (λ b. A) [ true ↦ x | false ↦ y ]) ≡ cond (not t) y x
as_cond_not true x y = refl
as_cond_not false x y = refl

abbrev by_places : {A : Type 0} → (A → Place) → A → A → Bool
by_places place x y = is_lt (place_cmp (place x) (place y))

put_by_place : {A : Type 0} (place : A → Place) (a : A) (bs : List A) → inserted_by place a bs ≡ put (by_places place) a bs
put_by_place place a [] = refl
put_by_place place a (b ∷ bs) =
    as_cond (is_before (place b) (place a)) (b ∷ inserted_by place a bs) (a ∷ b ∷ bs)
    ∙ ap (λ t. cond t (b ∷ inserted_by place a bs) (a ∷ b ∷ bs)) (sym (place_less (place b) (place a)))
    ∙ ap (λ ys. cond (by_places place b a) (b ∷ ys) (a ∷ b ∷ bs)) (put_by_place place a bs)

all_by_place : {A : Type 0} (place : A → Place) (xs : List A) → by_place place xs ≡ put_all (by_places place) xs
all_by_place place [] = refl
all_by_place place (a ∷ xs) = put_by_place place a (by_place place xs) ∙ ap (put (by_places place) a) (all_by_place place xs)

-- a stable sort by place
pub sorted_by_place : {A : Type 0} (place : A → Place) (xs ys : List A) → IsSortedBy (λ x y. is_lt (place_cmp (place x) (place y))) ys → IsStableBy (λ x y. is_lt (place_cmp (place x) (place y))) xs ys → ys ≡ by_place place xs
sorted_by_place place xs ys sorted stable = stable_is_put (by_places place) (ranks_by place_total place) xs ys sorted stable ∙ sym (all_by_place place xs)

abbrev by_faults : Diagnostic → Diagnostic → Bool
by_faults d e = is_lt (diagnostic_cmp d e)

put_fault : (d : Diagnostic) (es : List Diagnostic) → inserted d es ≡ put by_faults d es
put_fault d [] = refl
put_fault d (e ∷ es) =
    as_cond_not (is_in_front d e) (d ∷ e ∷ es) (e ∷ inserted d es)
    ∙ ap (λ t. cond t (e ∷ inserted d es) (d ∷ e ∷ es)) (sym (not_in_front d e))
    ∙ ap (λ ys. cond (by_faults e d) (e ∷ ys) (d ∷ e ∷ es)) (put_fault d es)

all_faults : (ds : List Diagnostic) → in_order ds ≡ put_all by_faults ds
all_faults [] = refl
all_faults (d ∷ ds) = put_fault d (in_order ds) ∙ ap (put by_faults d) (all_faults ds)

-- a stable sort of faults
pub sorted_faults : (xs ys : List Diagnostic) → IsSortedBy (λ d e. is_lt (diagnostic_cmp d e)) ys → IsStableBy (λ d e. is_lt (diagnostic_cmp d e)) xs ys → ys ≡ in_order xs
sorted_faults xs ys sorted stable = stable_is_put by_faults (ranks_by diagnostic_total (λ d. d)) xs ys sorted stable ∙ sym (all_faults xs)

before_map : {A B : Type 0} (f : A → B) (place : B → Place) (a : A) (bs : List A) → inserted_by place (f a) (map f bs) ≡ map f (inserted_by (λ x. place (f x)) a bs)
before_map f place a [] = refl
before_map {A} {B} f place a (b ∷ bs) = by (is_before (place (f b)) (place (f a))) (before_map f place a bs)
  where
    by : (t : Bool) → inserted_by place (f a) (map f bs) ≡ map f (inserted_by (λ x. place (f x)) a bs)
        → (elim t as (λ u. List B) [ true ↦ f b ∷ inserted_by place (f a) (map f bs) | false ↦ f a ∷ f b ∷ map f bs ]) ≡ map f (elim t as (λ u. List A) [ true ↦ b ∷ inserted_by (λ x. place (f x)) a bs | false ↦ a ∷ b ∷ bs ])
    by true e = ap (λ ys. f b ∷ ys) e
    by false e = refl

-- in order of place, what is seen of a list is what is seen of it in order
pub by_place_map : {A B : Type 0} (f : A → B) (place : B → Place) (xs : List A) → by_place place (map f xs) ≡ map f (by_place (λ x. place (f x)) xs)
by_place_map f place [] = refl
by_place_map f place (a ∷ xs) = ap (inserted_by place (f a)) (by_place_map f place xs) ∙ before_map f place a (by_place (λ x. place (f x)) xs)

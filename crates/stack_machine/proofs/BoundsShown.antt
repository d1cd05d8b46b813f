-- The bounds of dimensions of which no subscript is given, as a loop over the dimensions finds them.
use Rattle.std.proofs.Common.{◌≡◌, ℕ, zero, suc, ◌<◌, ℤ, Bool, true, false, not, is_some, append-nil, List, [], ◌∷◌, ◌++◌, length, take, set, map, Option, Some, None, refl, sym, ap, ◌∙◌, arith, slice_get}
use Rattle.cell_store.specs.declared.dimension.Dimension.{Dimension}
use Rattle.program_meaning.specs.Results.{free_bounds}
use Rattle.stack_machine.specs.Dumped.{bounds_left}
use Rattle.stack_machine.proofs.DumpLines.{take_next}

abbrev pub left_of : Dimension → Option ℤ → List (ℤ × ℤ)
left_of d None = (d.lower, d.upper) ∷ []
left_of d (Some i) = []

pub left_more : (ds : List Dimension) (d : Dimension) → bounds_left (ds ++ d ∷ []) ≡ bounds_left ds ++ left_of d d.given
left_more [] d = last d.given where
  last : (g : Option ℤ) → free_bounds ((d.lower, d.upper) ∷ []) (g ∷ []) ≡ left_of d g
  last None = refl
  last (Some i) = refl
left_more (x ∷ ds) d = front x.given (left_more ds d) where
  front : (g : Option ℤ) → bounds_left (ds ++ d ∷ []) ≡ bounds_left ds ++ left_of d d.given →
      free_bounds ((x.lower, x.upper) ∷ map (λ e. (e.lower, e.upper)) (ds ++ d ∷ [])) (g ∷ map (λ e. e.given) (ds ++ d ∷ [])) ≡ free_bounds ((x.lower, x.upper) ∷ map (λ e. (e.lower, e.upper)) ds) (g ∷ map (λ e. e.given) ds) ++ left_of d d.given
  front None r = ap (λ bs. (x.lower, x.upper) ∷ bs) r
  front (Some i) r = r

-- one dimension more
pub left_next : (ds : List Dimension) (n : ℕ) (d : Dimension) → slice_get ds n ≡ Some d → bounds_left (take (suc n) ds) ≡ bounds_left (take n ds) ++ left_of d d.given
left_next ds n d e = ap bounds_left (take_next ds n d e) ∙ left_more (take n ds) d

-- one pair more
pub put_next : {A : Type 0} (xs : List A) (n : ℕ) (x : A) → n < length xs → take (suc n) (set xs n x) ≡ take n xs ++ x ∷ []
put_next [] n x l = absurd (omega (arith, l))
put_next (y ∷ ys) zero x l = refl
put_next (y ∷ ys) (suc n) x l = ap (λ zs. y ∷ zs) (put_next ys n x (omega (arith, l)))

-- ---- whether a subscript is given

pub none_left : (d : Dimension) (g : Option ℤ) (r : Bool) → is_some g ≡ not r → r ≡ true → left_of d g ≡ (d.lower, d.upper) ∷ []
none_left d None r i e = refl
none_left d (Some x) true i e = absurd (cc i)
none_left d (Some x) false i e = absurd (cc e)

pub given_left : (d : Dimension) (g : Option ℤ) (r : Bool) → is_some g ≡ not r → r ≡ false → left_of d g ≡ []
given_left d (Some x) r i e = refl
given_left d None true i e = absurd (cc e)
given_left d None false i e = absurd (cc i)

-- ---- a dimension more

module _ (ds : List Dimension) (k n : ℕ) (d : Dimension) (bounds : List (ℤ × ℤ)) (here : slice_get ds k ≡ Some d) (by_now : take n bounds ≡ bounds_left (take k ds)) where
  pub one_put : left_of d d.given ≡ (d.lower, d.upper) ∷ [] → n < length bounds → (after : List (ℤ × ℤ)) → after ≡ set bounds n (d.lower, d.upper) → (n' k' : ℕ) → n' ≡ suc n → k' ≡ suc k → take n' after ≡ bounds_left (take k' ds)
  one_put left l after e n' k' en ek =
      ap (λ m. take m after) en ∙ ap (take (suc n)) e ∙ put_next bounds n (d.lower, d.upper) l
      ∙ ap (λ bs. bs ++ (d.lower, d.upper) ∷ []) by_now
      ∙ ap (λ bs. bounds_left (take k ds) ++ bs) (sym left)
      ∙ sym (left_next ds k d here) ∙ ap (λ m. bounds_left (take m ds)) (sym ek)

  pub none_put : left_of d d.given ≡ [] → (k' : ℕ) → k' ≡ suc k → take n bounds ≡ bounds_left (take k' ds)
  none_put left k' ek =
      by_now ∙ sym (append-nil (bounds_left (take k ds)))
      ∙ ap (λ bs. bounds_left (take k ds) ++ bs) (sym left)
      ∙ sym (left_next ds k d here) ∙ ap (λ m. bounds_left (take m ds)) (sym ek)

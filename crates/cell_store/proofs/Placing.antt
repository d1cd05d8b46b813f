-- Dimensions in their places, and blank ones behind them.
use Rattle.std.proofs.Common.{◌≡◌, ℕ, suc, ◌+◌, ◌-◌, ◌<◌, ◌≤◌, ℤ, true, false, ◌&&◌, List, [], ◌∷◌, ◌++◌, length, take, drop, map, replicate, get_or, Option, Result, Ok, Err, append_assoc, refl, sym, ap, ◌∙◌, arith}
use Rattle.std.specs.Prelude.{slice_set, if◌then◌else◌}
use Rattle.std.proofs.lemmas.List.{set_at, map_more, length-map, length-take-le, take_more_set, at_drop_more, at_drop_all, append-nil, length-set}
use Rattle.value_ops.specs.declared.faults.Fault.{Fault}
use Rattle.value_ops.specs.declared.faults.Fault.TheVariants.{SubscriptOutsideBounds}
use Rattle.cell_store.specs.declared.dimension.Dimension.{Dimension}
use Rattle.cell_store.specs.Arrays.{Array, dimension, elements, chosen, left_of, filled, is_within, all_within, subarray_of}
use Rattle.cell_store.specs.Held.{blank, Placed}
use Rattle.cell_store.proofs.Indexing.{elements_filled}

-- a dimension more in front of the blank ones
set_blank : (ds : List Dimension) (k : ℕ) (d : Dimension) → length ds ≡ k → k < 8 → slice_set (ds ++ replicate (8 - k) blank) k d ≡ (ds ++ d ∷ []) ++ replicate (8 - (k + 1)) blank
set_blank ds k d long h =
    let one : 8 - k ≡ suc (8 - (k + 1)) = omega arith in
    ap (λ n. slice_set (ds ++ replicate n blank) k d) one
    ∙ set_at ds blank (replicate (8 - (k + 1)) blank) d k long
    ∙ sym (append_assoc ds (d ∷ []) (replicate (8 - (k + 1)) blank))

-- ---- the dimensions of a new array

pub bounds_more : (bounds : List (ℤ × ℤ)) (k : ℕ) (b : ℤ × ℤ) (d : Dimension) → k < length bounds → k < 8 → d ≡ dimension (get_or bounds k b)
    → slice_set (map dimension (take k bounds) ++ replicate (8 - k) blank) k d ≡ map dimension (take (k + 1) bounds) ++ replicate (8 - (k + 1)) blank
bounds_more bounds k b d h few is =
    let front : List Dimension = map dimension (take k bounds) in
    let long : length front ≡ k = length-map (take k bounds) dimension ∙ length-take-le k bounds (omega arith) in
    set_blank front k d long few
    ∙ ap (λ e. (front ++ e ∷ []) ++ replicate (8 - (k + 1)) blank) is
    ∙ ap (λ ds. ds ++ replicate (8 - (k + 1)) blank) (sym (map_more dimension bounds k b h))

-- ---- the dimensions of a subarray

-- the first k are made, and blank ones stand behind them
pub record Begun (ds : List Dimension) (k : ℕ) : Type 0 where
  pub all : length ds ≡ 8
  pub rest : take k ds ++ replicate (8 - k) blank ≡ ds

pub begun_more : (ds : List Dimension) (k : ℕ) (d : Dimension) → k < 8 → Begun ds k → Begun (slice_set ds k d) (k + 1)
begun_more ds k d few h =
    let long : length (take k ds) ≡ k = length-take-le k ds (omega (arith, h.all)) in
    let front = take_more_set ds k d (omega (arith, h.all)) in
    record {
      all = length-set ds k d ∙ h.all;
      rest = ap (λ xs. xs ++ replicate (8 - (k + 1)) blank) front ∙ sym (set_blank (take k ds) k d long few) ∙ ap (λ xs. slice_set xs k d) h.rest;
    }

-- what the first k and the others give together
pub record Giving (ds made : List Dimension) (k : ℕ) (subscripts left : List (Option ℤ)) : Type 0 where
  pub given : take k made ++ filled (drop k ds) left ≡ filled ds subscripts
  pub within : all_within (filled (drop k ds) left) ≡ all_within (filled ds subscripts)

filled_on : (ds : List Dimension) (k : ℕ) (d : Dimension) (given : Option ℤ) (left after : List (Option ℤ)) → k < length ds → get_or ds k d ≡ d → given ≡ chosen d.given left → left_of d.given left ≡ after
    → filled (drop k ds) left ≡ record d { given = given } ∷ filled (drop (k + 1) ds) after
filled_on ds k d given left after h is given_is after_is =
    at_drop_more (λ xs. filled xs left) ds k d h
    ∙ ap (λ e. filled (e ∷ drop (k + 1) ds) left) is
    ∙ ap (λ xs. record d { given = chosen d.given left } ∷ filled (drop (k + 1) ds) xs) after_is
    ∙ ap (λ g. record d { given = g } ∷ filled (drop (k + 1) ds) after) (sym given_is)

is_within_given : (d : Dimension) (given : Option ℤ) (rest : List Dimension) → all_within (record d { given = given } ∷ rest) ≡ (is_within d given && all_within rest)
is_within_given d given rest = refl

pub giving_more : (ds made : List Dimension) (k : ℕ) (d : Dimension) (given : Option ℤ) (subscripts left after : List (Option ℤ)) → k < length ds → k < length made → get_or ds k d ≡ d → given ≡ chosen d.given left → left_of d.given left ≡ after → is_within d given ≡ true
    → Giving ds made k subscripts left → Giving ds (slice_set made k (record d { given = given })) (k + 1) subscripts after
giving_more ds made k d given subscripts left after h room is given_is after_is inside so_far =
    let e : Dimension = record d { given = given } in
    let on = filled_on ds k d given left after h is given_is after_is in
    record {
      given = ap (λ xs. xs ++ filled (drop (k + 1) ds) after) (take_more_set made k e room)
          ∙ append_assoc (take k made) (e ∷ []) (filled (drop (k + 1) ds) after)
          ∙ ap (λ xs. take k made ++ xs) (sym on)
          ∙ so_far.given;
      within = ap (λ b. b && all_within (filled (drop (k + 1) ds) after)) (sym inside) ∙ ap all_within (sym on) ∙ so_far.within;
    }

-- a subscript that is outside
pub subarray_stops : (a : Array) (made : List Dimension) (k : ℕ) (d : Dimension) (given : Option ℤ) (subscripts left : List (Option ℤ)) → k < length a.dimensions → get_or a.dimensions k d ≡ d → given ≡ chosen d.given left → is_within d given ≡ false
    → Giving a.dimensions made k subscripts left → ◌≡◌ {A = Result Array Fault} (Err SubscriptOutsideBounds) (subarray_of a subscripts)
subarray_stops a made k d given subscripts left h is given_is outside so_far =
    let on = filled_on a.dimensions k d given left (left_of d.given left) h is given_is refl in
    let none : all_within (filled a.dimensions subscripts) ≡ false = sym so_far.within ∙ ap all_within on ∙ ap (λ b. b && all_within (filled (drop (k + 1) a.dimensions) (left_of d.given left))) outside in
    ap (λ b. if b then Ok (record a { dimensions = filled a.dimensions subscripts }) else Err SubscriptOutsideBounds) (sym none)

-- all of them are given
pub giving_all : (ds made : List Dimension) (k : ℕ) (subscripts left : List (Option ℤ)) → length ds ≤ k → Giving ds made k subscripts left → (take k made ≡ filled ds subscripts) × (all_within (filled ds subscripts) ≡ true)
giving_all ds made k subscripts left past so_far =
    let none = at_drop_all (λ xs. filled xs left) ds k past in (
      sym (append-nil (take k made)) ∙ ap (λ xs. take k made ++ xs) (sym none) ∙ so_far.given,
      sym so_far.within ∙ ap all_within none,
    )

pub subarray_made : (a : Array) (ds : List Dimension) (subscripts : List (Option ℤ)) → ds ≡ filled a.dimensions subscripts → all_within (filled a.dimensions subscripts) ≡ true → ◌≡◌ {A = Result Array Fault} (Ok (record a { dimensions = ds })) (subarray_of a subscripts)
subarray_made a ds subscripts is all =
    ap (λ xs. Ok (record a { dimensions = xs })) is
    ∙ ap (λ b. if b then Ok (record a { dimensions = filled a.dimensions subscripts }) else Err SubscriptOutsideBounds) (sym all)

pub subarray_placed : (old made : List Dimension) (count first total : ℕ) (subscripts : List (Option ℤ)) → Placed old count first total → Begun made count → take count made ≡ filled (take count old) subscripts → Placed made count first total
subarray_placed old made count first total subscripts h begun is = record {
  fits = h.fits;
  all = begun.all;
  rest = ap (λ n. take count made ++ replicate (8 - n) blank) (length-take-le count made (omega (arith, begun.all, h.fits))) ∙ begun.rest;
  counted = h.counted ∙ sym (ap elements is ∙ elements_filled (take count old) subscripts);
  within = h.within;
}

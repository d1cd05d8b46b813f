-- What a loop over lines keeps.
use Rattle.std.proofs.Common.{◌≡◌, ℕ, suc, zero, ◌-◌, ◌<◌, Bool, true, false, List, [], ◌∷◌, Some, None, drop, refl, sym, ap, ◌∙◌, arith, subst, cond}
use Rattle.listing_parts.specs.Lines.{IsUpward}
use Rattle.listing_parts.specs.Reads.{LastLine, Left}
use Rattle.listing_parts.specs.Upwards.{above_all, above_one}

-- the text has lines above which the same lines stand as above all
pub record StillAbove (is_so : List ℕ → Bool) (lines : List (List ℕ)) (above : List ℕ) : Type 0 where
  pub here : List (List ℕ)
  pub has : IsUpward above here
  pub same : above_all is_so lines ≡ above_all is_so here

none_by : (v : Bool) (more up : List (List ℕ)) (line : List ℕ) → cond v (Some up) None ≡ None → cond v more (line ∷ up) ≡ line ∷ up
none_by true more up line none = absurd (cc none)
none_by false more up line none = refl

pub above_none : (p : List ℕ → Bool) (lines : List (List ℕ)) → above_one p lines ≡ None → above_all p lines ≡ lines
above_none p [] none = refl
above_none p (line ∷ up) none = none_by (p line) (above_all p up) up line none

some_by : (v : Bool) (p : List ℕ → Bool) (up rest : List (List ℕ)) (line : List ℕ) → cond v (Some up) None ≡ Some rest → cond v (above_all p up) (line ∷ up) ≡ above_all p rest
some_by true p up rest line some = let e : up ≡ rest = cc some in ap (above_all p) e
some_by false p up rest line some = absurd (cc some)

pub above_some : (p : List ℕ → Bool) (lines rest : List (List ℕ)) → above_one p lines ≡ Some rest → above_all p lines ≡ above_all p rest
above_some p [] rest some = absurd (cc some)
above_some p (line ∷ up) rest some = some_by (p line) p up rest line some

pub still_begins : (p : List ℕ → Bool) (lines : List (List ℕ)) (text : List ℕ) → IsUpward text lines → StillAbove p lines text
still_begins p lines text h = record { here = lines; has = h; same = refl }

pub still_more : (p : List ℕ → Bool) (lines : List (List ℕ)) (text above : List ℕ) (still : StillAbove p lines text) → Left (above_one p still.here) above → StillAbove p lines above
still_more p lines text above still left = record { here = left.up; has = left.rest; same = still.same ∙ above_some p still.here left.up left.is }

pub still_ends : (p : List ℕ → Bool) (lines : List (List ℕ)) (text : List ℕ) (still : StillAbove p lines text) → above_one p still.here ≡ None → IsUpward text (above_all p lines)
still_ends p lines text still none =
    let P : List (List ℕ) → Type 0 = λ ls. IsUpward text ls in
    subst P (sym (still.same ∙ above_none p still.here none)) still.has

-- ---- so many lines

-- the text has lines, of which so many are still to be left below
pub record StillLeft (count : ℕ) (lines : List (List ℕ)) (left : ℕ) (above : List ℕ) : Type 0 where
  pub here : List (List ℕ)
  pub has : IsUpward above here
  pub same : drop count lines ≡ drop left here

pub left_begins : (count : ℕ) (lines : List (List ℕ)) (text : List ℕ) → IsUpward text lines → StillLeft count lines count text
left_begins count lines text h = record { here = lines; has = h; same = refl }

drop_one : (n : ℕ) (line : List ℕ) (up : List (List ℕ)) → 0 < n → drop n (line ∷ up) ≡ drop (n - 1) up
drop_one zero line up h = absurd (omega arith)
drop_one (suc n) line up h = ap (λ k. drop k up) (omega arith)

drop_none : (n : ℕ) → drop {A = List ℕ} n [] ≡ []
drop_none zero = refl
drop_none (suc n) = refl

pub left_more : (count : ℕ) (lines : List (List ℕ)) (left : ℕ) (text above line : List ℕ) (still : StillLeft count lines left text) → 0 < left → LastLine still.here above line
    → StillLeft count lines (left - 1) above
left_more count lines left text above line still more last = record {
  here = last.up;
  has = last.rest;
  same = still.same ∙ ap (drop left) last.is ∙ drop_one left line last.up more;
}

pub left_ends : (count : ℕ) (lines : List (List ℕ)) (left : ℕ) (text : List ℕ) (still : StillLeft count lines left text) → left ≡ 0 → IsUpward text (drop count lines)
left_ends count lines left text still none =
    let P : List (List ℕ) → Type 0 = λ ls. IsUpward text ls in
    subst P (sym (still.same ∙ ap (λ n. drop n still.here) none)) still.has

pub left_empty : (count : ℕ) (lines : List (List ℕ)) (left : ℕ) (text : List ℕ) (still : StillLeft count lines left text) → still.here ≡ [] → IsUpward text (drop count lines)
left_empty count lines left text still none =
    let P : List (List ℕ) → Type 0 = λ ls. IsUpward text ls in
    subst P (none ∙ sym (drop_none left) ∙ sym (ap (drop left) none) ∙ sym still.same) still.has

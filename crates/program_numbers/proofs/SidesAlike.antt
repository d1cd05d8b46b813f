-- Two lists gone through side by side, the second of which is what the first is seen as.
use Rattle.std.proofs.Common.{◌≡◌, ◌⊎◌, inl, inr, List, [], ◌∷◌, map, length, sym, ap, ◌∙◌}
use Rattle.std.proofs.lemmas.List.{nil_from_length}

-- a pair more
pub pair_alike : {X Y : Type 0} (f : X → Y) (xs xs_behind : List X) (ys ys_behind : List Y) (x : X) (y : Y) → xs ≡ x ∷ xs_behind → ys ≡ y ∷ ys_behind → f x ≡ y → map f xs_behind ≡ ys_behind → map f xs ≡ ys
pair_alike f xs xs_behind ys ys_behind x y left right here behind =
    ap (map f) left ∙ ap (λ z. z ∷ map f xs_behind) here ∙ ap (λ zs. y ∷ zs) behind ∙ sym right

-- where one of the two is over, and they are as long
pub ends_alike : {X Y : Type 0} (f : X → Y) (xs : List X) (ys : List Y) → length xs ≡ length ys → (xs ≡ []) ⊎ (ys ≡ []) → map f xs ≡ ys
ends_alike f xs ys long (inl none) = ap (map f) none ∙ sym (nil_from_length ys (sym long ∙ ap length none))
ends_alike f xs ys long (inr none) = ap (map f) (nil_from_length xs (long ∙ ap length none)) ∙ sym none

-- The end of a piece.
use Rattle.std.proofs.Common.{◌≡◌, ◌==◌, ℕ, List, [], ◌∷◌, ◌++◌, if◌then◌else◌, Bool, true, false, refl, ap, ◌∙◌}
use Rattle.deck_reader.specs.Cards.{without_return}

under : (f x : ℕ) (b : Bool) (xs ys : List ℕ) → f ∷ (if b then xs else ys) ≡ (if b then f ∷ xs else f ∷ ys)
under f x true xs ys = refl
under f x false xs ys = refl

-- what is left of a list with one more byte at its end
pub without_return_behind : (front : List ℕ) (b : ℕ) → without_return (front ++ b ∷ []) ≡ (if b == 13 then front else front ++ b ∷ [])
without_return_behind [] b = refl
without_return_behind (f ∷ []) b = under f b (b == 13) [] (b ∷ [])
without_return_behind (f ∷ g ∷ front) b =
    ap (λ xs. f ∷ xs) (without_return_behind (g ∷ front) b)
    ∙ under f b (b == 13) (g ∷ front) (g ∷ front ++ b ∷ [])

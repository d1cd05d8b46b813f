-- Tokens without the last one.
use Rattle.std.proofs.Common.{◌≡◌, ◌≤◌, ℕ, List, [], ◌∷◌, ◌++◌, refl, ap, arith}
use Rattle.value_ops.specs.declared.places.Place.{Place}
use Rattle.algolw_tree.specs.declared.tokens.Token.{Token}
use Rattle.algolw_scanner.proofs.Order.{RiseBehind}

abbrev pub init : List Token → List Token
init [] = []
init (t ∷ []) = []
init (t ∷ u ∷ ts) = t ∷ init (u ∷ ts)

pub init_last : (front : List Token) (t : Token) → init (front ++ t ∷ []) ≡ front
init_last [] t = refl
init_last (u ∷ []) t = refl
init_last (u ∷ w ∷ front) t = ap (λ (ts : List Token). u ∷ ts) (init_last (w ∷ front) t)

pub init_rise : (p : Place) (ts : List Token) → RiseBehind p ts → RiseBehind p (init ts)
init_rise p [] h = tt
init_rise p (t ∷ []) h = tt
init_rise p (t ∷ u ∷ ts) h = (h.0, init_rise t.place (u ∷ ts) h.1)

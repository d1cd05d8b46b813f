-- What all parts give, one by one.
use Rattle.std.proofs.Common.{◌≡◌, List, ◌∷◌, ◌++◌, Option, Some, None, refl, append_assoc}
use Rattle.algolw_typing.specs.Types.{Gives}
use Rattle.algolw_typing.specs.Verdicts.{Verdict, all_parts}
use Rattle.typed_phrases.specs.FoundParts.{by_all, with_one_more}

-- the rest, behind what those before it give
abbrev pub Behind : Option (List Gives) → List (Option Gives) → (List Gives → Verdict) → Verdict
Behind before rest row = by_all before (λ gs. all_parts rest (λ hs. row (gs ++ hs)))

pub one_behind : (before : Option (List Gives)) (g : Option Gives) (rest : List (Option Gives)) (row : List Gives → Verdict) → Behind before (g ∷ rest) row ≡ Behind (with_one_more before g) rest row
one_behind None g rest row = refl
one_behind (Some gs) None rest row = refl
one_behind (Some gs) (Some g) rest row = simp append_assoc

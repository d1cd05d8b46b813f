-- The row of a CASE between statements, by what they give together.
use Rattle.std.proofs.Common.{◌≡◌, List, [], ◌∷◌, Option, Some, None, refl, ◌∙◌}
use Rattle.value_ops.specs.declared.places.Place.{Place}
use Rattle.algolw_typing.specs.Rows.{case_do_row}
use Rattle.algolw_typing.specs.Types.{Gives, Statement, Simple}
use Rattle.algolw_typing.specs.Verdicts.{Verdict, Fault, all_parts, int, part}
use Rattle.typed_phrases.specs.Cases.{both_give, together}

-- a verdict that rests on nothing but that each has a type
whatever : (gs : List (Option Gives)) (v : Verdict) → all_parts gs (λ _. v) ≡ part (together gs) (λ _. v)
whatever [] v = refl
whatever (None ∷ gs) v = refl
whatever (Some Statement ∷ gs) v = whatever gs v
whatever (Some (Simple t) ∷ gs) v = whatever gs v ∙ behind (together gs) where
  behind : (o : Option Gives) → part o (λ _. v) ≡ part (both_give (Some (Simple t)) o) (λ _. v)
  behind None = refl
  behind (Some g) = refl

pub row_together : (p : Place) (g : Gives) (gs : List (Option Gives)) → all_parts gs (case_do_row p g) ≡ part (together gs) (λ h. case_do_row p g (h ∷ []))
row_together p g [] = refl
row_together p g (None ∷ gs) = refl
row_together p g (Some Statement ∷ gs) = row_together p g gs
row_together p g (Some (Simple t) ∷ gs) = whatever gs (int p g (Fault 36 p)) ∙ behind (together gs) where
  behind : (o : Option Gives) → part o (λ _. int p g (Fault 36 p)) ≡ part (both_give (Some (Simple t)) o) (λ h. case_do_row p g (h ∷ []))
  behind None = refl
  behind (Some h) = refl

-- The line of an operator's board.
use Rattle.std.specs.Prelude.{◌≡◌, ℕ, List, [], ◌∷◌, ◌++◌, codes, decimal}
use Rattle.operator_board.specs.declared.tallies.Tallies.{Tallies}
use Rattle.operator_board.specs.Tallies.{AddsUp}

abbrev pub board_text : Tallies → List ℕ
board_text t =
    codes "BOARD ARRIVED " ++ decimal t.arrived ++ codes " ACCEPTED " ++ decimal t.accepted ++ codes " REFUSED " ++ decimal t.refused ++ codes " ENDED " ++ decimal t.ended ++ codes " PRINTED " ++ decimal t.printed ++ 10 ∷ []

-- it says tallies that add up
pub record IsBoardLine (text : List ℕ) : Type 0 where
  pub counts : Tallies
  pub add_up : AddsUp counts
  pub says : text ≡ board_text counts

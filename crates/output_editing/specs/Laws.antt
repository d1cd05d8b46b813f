-- What a reader of the lines may rely on.
use Rattle.std.specs.Prelude.{◌≡◌, ℕ, ◌-◌, ◌≤◌, List, ◌++◌, length, take, All}
use Rattle.output_editing.specs.Layout.{Piece, Break, Put, lay}

-- the lines before the last stay as they are, whatever is printed behind them
abbrev pub LinesStay : Type 0
LinesStay = (pieces more : List Piece) (n : ℕ) → n ≤ length (lay pieces) - 1 → take n (lay (pieces ++ more)) ≡ take n (lay pieces)

-- no line is taken back
abbrev pub LinesNeverFewer : Type 0
LinesNeverFewer = (pieces more : List Piece) → length (lay pieces) ≤ length (lay (pieces ++ more))

-- a text has at most 132 characters
abbrev pub IsWithinLine : Piece → Type 0
IsWithinLine Break = Unit {0}
IsWithinLine (Put text after) = length text ≤ 132

-- no line has more than 132 columns, where no text has
abbrev pub LinesFit : Type 0
LinesFit = (pieces : List Piece) → All IsWithinLine pieces → All (λ line. length line ≤ 132) (lay pieces)

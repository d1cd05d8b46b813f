-- The lines of a layout are cut so, and only so.
use Rattle.std.proofs.Common.{◌≡◌, ℕ, List, [], ◌∷◌, ◌++◌, Bool, true, false, refl, sym, subst, ap, ◌∙◌}
use Rattle.std.specs.Prelude.{Some, None, if◌then◌else◌}
use Rattle.short_text.specs.Blanks.{trimmed}
use Rattle.output_editing.specs.Layout.{Piece, Break, Put, fits, spaced, lay_from}
use Rattle.output_editing.specs.Cuts.{OnLine, first, next, Closes, by_end, by_break, by_text, AreCut, no_piece, break_alone, a_line, LinesAreCut}

-- a piece at the end of some goes before what is behind them
moved : (front : List Piece) (p : Piece) (rest : List Piece) → (front ++ p ∷ []) ++ rest ≡ front ++ p ∷ rest
moved [] p rest = refl
moved (q ∷ front) p rest = ap (λ ps. q ∷ ps) (moved front p rest)

-- ---- the layout is cut so

-- the lines behind an open one, by whether a text fits there
abbrev Behind : List ℕ → List ℕ → ℕ → List Piece → Bool → List (List ℕ)
Behind line text after rest b = (if b then [] else trimmed line ∷ []) ++ lay_from (Some (spaced (if b then line ++ text else text) after)) rest

by_fit : (front : List Piece) (line text : List ℕ) (after : ℕ) (rest : List Piece) (b : Bool) → fits line text ≡ b → OnLine front line
    → (fits line text ≡ true → AreCut ((front ++ Put text after ∷ []) ++ rest) (lay_from (Some (spaced (line ++ text) after)) rest)) → AreCut (Put text after ∷ rest) (lay_from (Some (spaced text after)) rest)
    → AreCut (front ++ Put text after ∷ rest) (Behind line text after rest b)
by_fit front line text after rest true e h on new = subst (λ ps. AreCut ps (lay_from (Some (spaced (line ++ text) after)) rest)) (moved front (Put text after) rest) (on e)
by_fit front line text after rest false e h on new = a_line h (by_text e) new

mutual
  cut_from_none : (pieces : List Piece) → AreCut pieces (lay_from None pieces)
  cut_from_none [] = no_piece
  cut_from_none (Break ∷ rest) = break_alone (cut_from_none rest)
  cut_from_none (Put text after ∷ rest) = cut_from_line rest (Put text after ∷ []) (spaced text after) first

  cut_from_line : (pieces front : List Piece) (line : List ℕ) → OnLine front line → AreCut (front ++ pieces) (lay_from (Some line) pieces)
  cut_from_line [] front line h = a_line h by_end no_piece
  cut_from_line (Break ∷ rest) front line h = a_line h by_break (cut_from_none rest)
  cut_from_line (Put text after ∷ rest) front line h =
      by_fit front line text after rest (fits line text) refl h
      (λ e. cut_from_line rest (front ++ Put text after ∷ []) (spaced (line ++ text) after) (next text after h e))
      (cut_from_line rest (Put text after ∷ []) (spaced text after) first)

-- ---- and only so

fitting : (line text : List ℕ) (after : ℕ) (rest : List Piece) (b : Bool) → fits line text ≡ b → lay_from (Some line) (Put text after ∷ rest) ≡ Behind line text after rest b
fitting line text after rest b e = ap (Behind line text after rest) e

opened : {front : List Piece} {line : List ℕ} → OnLine front line → (rest : List Piece) → lay_from None (front ++ rest) ≡ lay_from (Some line) rest
opened first rest = refl
opened (next {pieces = pieces} {line = line} text after h e) rest = ap (lay_from None) (moved pieces (Put text after) rest) ∙ opened h (Put text after ∷ rest) ∙ fitting line text after rest true e

closed : {line : List ℕ} {behind rest : List Piece} → Closes line behind rest → lay_from (Some line) behind ≡ trimmed line ∷ lay_from None rest
closed by_end = refl
closed by_break = refl
closed {line = line} (by_text {text = text} {after = after} {rest = rest} e) = fitting line text after rest false e

laid : {pieces : List Piece} {lines : List (List ℕ)} → AreCut pieces lines → lines ≡ lay_from None pieces
laid no_piece = refl
laid (break_alone h) = laid h
laid (a_line {behind = behind} {line = line} o c h) = ap (λ ls. trimmed line ∷ ls) (laid h) ∙ sym (opened o behind ∙ closed c)

pub lines_are_cut : LinesAreCut
lines_are_cut = record { cut = cut_from_none; only = λ pieces lines h. laid h }

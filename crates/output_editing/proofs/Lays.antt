-- The lines of pieces: those that are closed, and the one that is open behind them.
use Rattle.std.proofs.Common.{◌≡◌, ℕ, ◌≤◌, Bool, true, false, cond, List, [], ◌∷◌, ◌++◌, length, take, Option, Some, None, fold, refl, sym, ap, ◌∙◌, append_assoc, append-nil, arith}
use Rattle.std.proofs.lemmas.List.{length-append, take-append-le}
use Rattle.std.proofs.lemmas.List.Sums.{fold-append}
use Rattle.short_text.specs.Blanks.{trimmed}
use Rattle.output_editing.specs.Layout.{Piece, Break, Put, fits, spaced, printed, closed_by, open_behind, open_line_of, lay_from, lay}
use Rattle.output_editing.specs.Held.{takes}
use Rattle.output_editing.specs.Laws.{LinesStay, LinesNeverFewer}

-- the lines that pieces close, which come behind an open line or none
abbrev pub closed_from : Option (List ℕ) → List Piece → List (List ℕ)
closed_from open_line [] = []
closed_from open_line (piece ∷ pieces) = closed_by open_line piece ++ closed_from (open_behind open_line piece) pieces

-- the lines that pieces close
abbrev pub closed : List Piece → List (List ℕ)
closed pieces = closed_from None pieces

lay_from-append : (open_line : Option (List ℕ)) (pieces more : List Piece)
    → lay_from open_line (pieces ++ more) ≡ closed_from open_line pieces ++ lay_from (fold open_behind open_line pieces) more
lay_from-append open_line [] more = refl
lay_from-append open_line (piece ∷ pieces) more =
    ap (λ lines. closed_by open_line piece ++ lines) (lay_from-append (open_behind open_line piece) pieces more)
    ∙ sym (append_assoc (closed_by open_line piece) (closed_from (open_behind open_line piece) pieces) (lay_from (fold open_behind (open_behind open_line piece) pieces) more))

-- behind the lines that pieces close come those of the pieces that follow, which find a line open or none
pub lay-append : (pieces more : List Piece) → lay (pieces ++ more) ≡ closed pieces ++ lay_from (open_line_of pieces) more
lay-append pieces more = lay_from-append None pieces more

-- the lines of pieces are those that they close, and the open one
pub lay_parts : (pieces : List Piece) → lay pieces ≡ closed pieces ++ printed (open_line_of pieces)
lay_parts pieces = ap lay (sym (append-nil pieces)) ∙ lay-append pieces []

-- an open line is printed whatever comes
open_line_stays : (line : List ℕ) (more : List Piece) → 1 ≤ length (lay_from (Some line) more)
open_line_stays line [] = omega arith
open_line_stays line (Break ∷ more) = omega arith
open_line_stays line (Put text after ∷ more) =
    let next = spaced (cond (fits line text) (line ++ text) text) after in
    omega (arith, length-append (closed_by (Some line) (Put text after)) (lay_from (Some next) more), open_line_stays next more)

printed_stays : (open_line : Option (List ℕ)) (more : List Piece) → length (printed open_line) ≤ length (lay_from open_line more)
printed_stays None more = omega arith
printed_stays (Some line) more = open_line_stays line more

pub lines_never_fewer : LinesNeverFewer
lines_never_fewer pieces more =
    let here = ap length (lay_parts pieces) ∙ length-append (closed pieces) (printed (open_line_of pieces)) in
    let there = ap length (lay-append pieces more) ∙ length-append (closed pieces) (lay_from (open_line_of pieces) more) in
    omega (arith, here, there, printed_stays (open_line_of pieces) more)

one_open : (open_line : Option (List ℕ)) → length (printed open_line) ≤ 1
one_open None = omega arith
one_open (Some line) = omega arith

pub lines_stay : LinesStay
lines_stay pieces more n within =
    let here = ap length (lay_parts pieces) ∙ length-append (closed pieces) (printed (open_line_of pieces)) in
    let few : n ≤ length (closed pieces) = omega (arith, here, one_open (open_line_of pieces)) in
    ap (take n) (lay-append pieces more)
    ∙ take-append-le n (closed pieces) (lay_from (open_line_of pieces) more) few
    ∙ sym (take-append-le n (closed pieces) (printed (open_line_of pieces)) few)
    ∙ ap (take n) (sym (lay_parts pieces))

open_line-push : (pieces : List Piece) (piece : Piece) → open_line_of (pieces ++ piece ∷ []) ≡ open_behind (open_line_of pieces) piece
open_line-push pieces piece = fold-append open_behind None pieces (piece ∷ [])

break_closes : (open_line : Option (List ℕ)) → closed_by open_line Break ++ [] ≡ printed open_line
break_closes None = refl
break_closes (Some line) = refl

-- a break closes the open line, and changes no line
pub lay-break : (pieces : List Piece) → lay (pieces ++ Break ∷ []) ≡ lay pieces
lay-break pieces = lay-append pieces (Break ∷ []) ∙ ap (λ lines. closed pieces ++ lines) (break_closes (open_line_of pieces)) ∙ sym (lay_parts pieces)

pub open_line-break : (pieces : List Piece) → open_line_of (pieces ++ Break ∷ []) ≡ None
open_line-break pieces = open_line-push pieces Break

-- a text that fits on the open line goes there
pub lay-fits : (pieces : List Piece) (line text : List ℕ) (after : ℕ) → open_line_of pieces ≡ Some line → fits line text ≡ true
    → lay (pieces ++ Put text after ∷ []) ≡ closed pieces ++ trimmed (spaced (line ++ text) after) ∷ []
lay-fits pieces line text after is room =
    lay-append pieces (Put text after ∷ [])
    ∙ ap (λ (open_line : Option (List ℕ)). closed pieces ++ lay_from open_line (Put text after ∷ [])) is
    ∙ ap (λ (b : Bool). closed pieces ++ (cond b [] (printed (Some line)) ++ printed (Some (spaced (cond b (line ++ text) text) after)))) room

pub open_line-fits : (pieces : List Piece) (line text : List ℕ) (after : ℕ) → open_line_of pieces ≡ Some line → fits line text ≡ true
    → open_line_of (pieces ++ Put text after ∷ []) ≡ Some (spaced (line ++ text) after)
open_line-fits pieces line text after is room =
    open_line-push pieces (Put text after)
    ∙ ap (λ (open_line : Option (List ℕ)). open_behind open_line (Put text after)) is
    ∙ ap (λ (b : Bool). Some (spaced (cond b (line ++ text) text) after)) room

begins : (open_line : Option (List ℕ)) (text : List ℕ) (after : ℕ) → takes open_line text ≡ false
    → lay_from open_line (Put text after ∷ []) ≡ printed open_line ++ trimmed (spaced text after) ∷ []
begins None text after no_room = refl
begins (Some line) text after no_room = ap (λ (b : Bool). cond b [] (printed (Some line)) ++ printed (Some (spaced (cond b (line ++ text) text) after))) no_room

begins_open : (open_line : Option (List ℕ)) (text : List ℕ) (after : ℕ) → takes open_line text ≡ false
    → open_behind open_line (Put text after) ≡ Some (spaced text after)
begins_open None text after no_room = refl
begins_open (Some line) text after no_room = ap (λ (b : Bool). Some (spaced (cond b (line ++ text) text) after)) no_room

-- a text that doesn't fit there, or finds no line open, begins a line
pub lay-begins : (pieces : List Piece) (text : List ℕ) (after : ℕ) → takes (open_line_of pieces) text ≡ false
    → lay (pieces ++ Put text after ∷ []) ≡ lay pieces ++ trimmed (spaced text after) ∷ []
lay-begins pieces text after no_room =
    lay-append pieces (Put text after ∷ [])
    ∙ ap (λ lines. closed pieces ++ lines) (begins (open_line_of pieces) text after no_room)
    ∙ sym (append_assoc (closed pieces) (printed (open_line_of pieces)) (trimmed (spaced text after) ∷ []))
    ∙ ap (λ lines. lines ++ trimmed (spaced text after) ∷ []) (sym (lay_parts pieces))

pub open_line-begins : (pieces : List Piece) (text : List ℕ) (after : ℕ) → takes (open_line_of pieces) text ≡ false
    → open_line_of (pieces ++ Put text after ∷ []) ≡ Some (spaced text after)
open_line-begins pieces text after no_room = open_line-push pieces (Put text after) ∙ begins_open (open_line_of pieces) text after no_room

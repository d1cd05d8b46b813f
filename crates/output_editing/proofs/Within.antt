-- How wide lines are.
use Rattle.std.proofs.Common.{◌≡◌, ℕ, ◌+◌, ◌-◌, ◌≤◌, min, Bool, true, false, cond, List, [], ◌∷◌, ◌++◌, length, All, Option, Some, None, ◌==◌, refl, arith}
use Rattle.std.specs.List.{suffix_len}
use Rattle.std.proofs.lemmas.Bool.Decides.{nat_tests}
use Rattle.std.proofs.lemmas.List.{length-append, length-take, length-replicate}
use Rattle.std.proofs.lemmas.List.Elements.{All-nil, All-cons, All-head, All-tail, All-append}
use Rattle.short_text.specs.Blanks.{trimmed, blanks}
use Rattle.output_editing.specs.Layout.{Piece, Break, Put, fits, spaced, printed, closed_by, open_behind, lay_from}
use Rattle.output_editing.specs.Laws.{IsWithinLine, LinesFit}

abbrev IsWithin : List ℕ → Type 0
IsWithin line = length line ≤ 132

abbrev OpenWithin : Option (List ℕ) → Type 0
OpenWithin None = Unit {0}
OpenWithin (Some line) = IsWithin line

trimmed_within : (line : List ℕ) → IsWithin line → IsWithin (trimmed line)
trimmed_within line within = omega (arith, within, length-take (length line - suffix_len (λ b. b == 32) line) line)

spaced_within : (line : List ℕ) (after : ℕ) → IsWithin line → IsWithin (spaced line after)
spaced_within line after within =
    omega (arith, within, length-append line (blanks (min after (132 - length line))), length-replicate {A = ℕ} (min after (132 - length line)) 32)

printed_within : (open_line : Option (List ℕ)) → OpenWithin open_line → All IsWithin (printed open_line)
printed_within None within = All-nil IsWithin
printed_within (Some line) within = All-cons IsWithin (trimmed line) [] (trimmed_within line within) (All-nil IsWithin)

chosen_within : (room : Bool) (line : List ℕ) → IsWithin line → All IsWithin (cond room [] (trimmed line ∷ []))
chosen_within true line within = All-nil IsWithin
chosen_within false line within = printed_within (Some line) within

closed_within : (open_line : Option (List ℕ)) (piece : Piece) → OpenWithin open_line → All IsWithin (closed_by open_line piece)
closed_within None piece within = All-nil IsWithin
closed_within (Some line) Break within = printed_within (Some line) within
closed_within (Some line) (Put text after) within = chosen_within (fits line text) line within

placed_within : (room : Bool) (line text : List ℕ) → fits line text ≡ room → IsWithin text → IsWithin (cond room (line ++ text) text)
placed_within true line text is within =
    let few : length line + length text ≤ 132 = grind (arith, nat_tests) in
    omega (arith, few, length-append line text)
placed_within false line text is within = within

open_within : (open_line : Option (List ℕ)) (piece : Piece) → OpenWithin open_line → IsWithinLine piece → OpenWithin (open_behind open_line piece)
open_within open_line Break within short = tt
open_within None (Put text after) within short = spaced_within text after short
open_within (Some line) (Put text after) within short =
    spaced_within (cond (fits line text) (line ++ text) text) after (placed_within (fits line text) line text refl short)

lay_within : (open_line : Option (List ℕ)) (pieces : List Piece) → OpenWithin open_line → All IsWithinLine pieces → All IsWithin (lay_from open_line pieces)
lay_within open_line [] within short = printed_within open_line within
lay_within open_line (piece ∷ pieces) within short =
    All-append IsWithin (closed_by open_line piece) (lay_from (open_behind open_line piece) pieces)
    (closed_within open_line piece within)
    (lay_within (open_behind open_line piece) pieces
    (open_within open_line piece within (All-head IsWithinLine piece pieces short))
    (All-tail IsWithinLine piece pieces short))

pub lines_fit : LinesFit
lines_fit pieces short = lay_within None pieces tt short

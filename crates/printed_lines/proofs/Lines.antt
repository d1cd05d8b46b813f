-- The lines of what is printed, and of a dump.
use Rattle.std.proofs.Common.{◌≡◌, ℕ, ◌+◌, ◌-◌, ◌<◌, ℤ, get_or, sym, subst, ap, Bool, true, false, ◌==◌, nat_le, if◌then◌else◌, List, [], ◌∷◌, ◌++◌, map, length, take, drop, All, codes, decimal, Option, Some, None, refl, arith}
use Rattle.std.specs.Prelude.{⊤, slice_get, IfSome, min}
use Rattle.std.specs.List.{join_with_byte, suffix_len}
use Rattle.std.specs.Fmt.{signed_decimal}
use Rattle.std.proofs.lemmas.List.Elements.{All-nil, All-cons, All-head, All-tail, All-append, All-take, All-map, All-replicate}
use Rattle.short_text.specs.Blanks.{blanks, trimmed}
use Rattle.short_text.proofs.Trimmed.{trimmed_and_blanks}
use Rattle.value_ops.specs.declared.places.Place.{Place}
use Rattle.value_ops.specs.declared.values.Value.{Value}
use Rattle.value_ops.specs.declared.values.Value.TheVariants as value
use Rattle.value_ops.specs.declared.values.RecordId.{RecordId}
use Rattle.output_editing.specs.declared.widths.Widths.{Widths}
use Rattle.output_editing.specs.Layout.{Piece, Break, Put, fits, spaced, printed, closed_by, open_behind, lay_from, lay}
use Rattle.output_editing.specs.Written.{string_puts, puts}
use Rattle.post_mortem.specs.declared.entries.Entry as dump
use Rattle.post_mortem.specs.declared.entries.Entry.TheVariants as line
use Rattle.post_mortem.specs.declared.entries.Shown.{Shown}
use Rattle.post_mortem.specs.declared.entries.Shown.TheVariants as shown
use Rattle.post_mortem.specs.Dump.{place_text, entry_text, dump_text}
use Rattle.post_mortem.specs.Shown.{pair_text, bounds_text, shown_text}
use Rattle.post_mortem.specs.Values.{quoted, value_text}
use Rattle.program_meaning.specs.State.{State, Outcome, on, jump, stop, ArrayInfo, RecordInfo, Held, a_variable, an_array, a_number, by_name, a_procedure, ShownName, Entry, in_block, in_call, in_actual, in_turn}
use Rattle.program_meaning.specs.Widths.{pieces_of}
use Rattle.program_meaning.specs.Results.{shown_record, shown_value, shown_variable, shown_array, shown_held, shown_names, entry_lines, all_lines, dump_lines, dump_of, state_of}
use Rattle.printed_lines.specs.Texts.{IsPrintable, IsText, IsVisible, IsWord, IsIndented, ValueHolds}
use Rattle.printed_lines.specs.States.{VariableHolds, RecordHolds, PieceHolds, ShownHolds, EntryHolds, StateHolds}
use Rattle.printed_lines.proofs.Texts.{either, found, text_nil, text_cons, text_append, text_take, text_drop, text_blanks, text_trimmed, text_right, text_of, text_of_word, text_decimal, text_signed, text_bits, text_truth}

-- ---- pieces of values

one_piece : {text : List ℕ} (after : ℕ) → IsText text → All PieceHolds (Put text after ∷ [])
one_piece {text} after h = All-cons PieceHolds (Put text after) [] h (All-nil PieceHolds)

puts_hold : (v : Value) (w : Widths) → ValueHolds v → All PieceHolds (puts v w)
puts_hold (value.Integer n) w h = one_piece w.blanks (text_right w.integer (text_signed n))
puts_hold (value.Logical b) w h = one_piece w.blanks (text_right 6 (text_truth b))
puts_hold (value.Bits n) w h = one_piece w.blanks (text_right 14 (text_bits n))
puts_hold (value.Str s) w h = either (All PieceHolds) (nat_le (length s) 132) _ _ (one_piece 0 h) (All-cons PieceHolds (Put (take 132 s) 0) (Put (drop 132 s) 0 ∷ []) (text_take 132 h) (one_piece 0 (text_drop 132 h)))
puts_hold (value.Reference r) w h = All-nil PieceHolds

pub pieces_hold : (first : Bool) (v : Value) (w : Widths) → ValueHolds v → All PieceHolds (pieces_of first v w)
pieces_hold true v w h = All-cons PieceHolds Break (puts v w) tt (puts_hold v w h)
pieces_hold false v w h = puts_hold v w h

-- ---- lines of pieces

-- the open line, where there is one
abbrev OpenHolds : Option (List ℕ) → Type 0
OpenHolds None = ⊤
OpenHolds (Some line) = IsText line

one_line : {text : List ℕ} → IsText text → All IsText (text ∷ [])
one_line {text} h = All-cons IsText text [] h (All-nil IsText)

printed_texts : (o : Option (List ℕ)) → OpenHolds o → All IsText (printed o)
printed_texts None h = All-nil IsText
printed_texts (Some line) h = one_line (text_trimmed h)

closed_texts : (o : Option (List ℕ)) (p : Piece) → OpenHolds o → All IsText (closed_by o p)
closed_texts None p h = All-nil IsText
closed_texts (Some line) Break h = one_line (text_trimmed h)
closed_texts (Some line) (Put text after) h = either (All IsText) (fits line text) _ _ (All-nil IsText) (one_line (text_trimmed h))

spaced_text : {text : List ℕ} (after : ℕ) → IsText text → IsText (spaced text after)
spaced_text {text} after h = text_append h (text_blanks (min after (132 - length text)))

open_holds : (o : Option (List ℕ)) (p : Piece) → OpenHolds o → PieceHolds p → OpenHolds (open_behind o p)
open_holds None Break h k = tt
open_holds (Some line) Break h k = tt
open_holds None (Put text after) h k = spaced_text after k
open_holds (Some line) (Put text after) h k = spaced_text after (either IsText (fits line text) _ _ (text_append h k) k)

lay_texts : (o : Option (List ℕ)) (ps : List Piece) → OpenHolds o → All PieceHolds ps → All IsText (lay_from o ps)
lay_texts o [] h k = printed_texts o h
lay_texts o (p ∷ ps) h k = All-append IsText (closed_by o p) (lay_from (open_behind o p) ps) (closed_texts o p h) (lay_texts (open_behind o p) ps (open_holds o p h (All-head PieceHolds p ps k)) (All-tail PieceHolds p ps k))

pub lines_texts : (n : ℕ) (ps : List Piece) → All PieceHolds ps → All IsText (take n (lay ps))
lines_texts n ps h = All-take IsText n (lay ps) (lay_texts None ps tt h)

-- ---- the text of an entry

pub place_texts : (p : Place) → IsText (place_text p)
place_texts p = text_append (text_append (text_decimal p.card) (text_of (codes ",") refl)) (text_decimal p.column)

quoted_text : (s : List ℕ) → IsText s → IsText (quoted s)
quoted_text [] h = text_nil
quoted_text (c ∷ s) h =
    let one : IsText (c ∷ []) = text_cons (All-head IsPrintable c s h.each) text_nil in
    text_append (either IsText (c == 34) _ _ (text_of (codes "\"\"") refl) one) (quoted_text s (record { each = All-tail IsPrintable c s h.each }))

value_texts : (v : Value) → ValueHolds v → IsText (value_text v)
value_texts (value.Integer n) h = text_signed n
value_texts (value.Logical b) h = text_truth b
value_texts (value.Bits n) h = text_append (text_of (codes "#") refl) (text_bits n)
value_texts (value.Str s) h = text_append (text_append (text_of (codes "\"") refl) (quoted_text s h)) (text_of (codes "\"") refl)
value_texts (value.Reference None) h = text_of (codes "NULL") refl
value_texts (value.Reference (Some id)) h = text_nil

pair_texts : (p : ℤ × ℤ) → IsText (pair_text p)
pair_texts p = text_append (text_append (text_signed p.0) (text_of (codes "::") refl)) (text_signed p.1)

pairs_text : (ps : List (ℤ × ℤ)) → IsText (join_with_byte 44 (map pair_text ps))
pairs_text [] = text_nil
pairs_text (p ∷ []) = pair_texts p
pairs_text (p ∷ q ∷ ps) = text_append (pair_texts p) (text_cons (omega arith, omega arith) (pairs_text (q ∷ ps)))

-- what a name stands for
abbrev WhatHolds : Shown → Type 0
WhatHolds (shown.Simple v) = ValueHolds v
WhatHolds (shown.Record class id) = IsText class
WhatHolds what = ⊤

what_text : (x : Shown) → WhatHolds x → IsText (shown_text x)
what_text shown.Undefined h = text_of (codes " = ?") refl
what_text (shown.Simple v) h = text_append (text_of (codes " = ") refl) (value_texts v h)
what_text (shown.Record class id) h = text_append (text_append (text_append (text_of (codes " = ") refl) h) (text_of (codes ".") refl)) (text_decimal (id.0 + 1))
what_text (shown.Bounds d) h = text_append (text_append (text_of (codes " ARRAY (") refl) (pairs_text (take d.count d.bounds))) (text_of (codes ")") refl)
what_text shown.ByName h = text_of (codes " NAME") refl
what_text shown.Procedure h = text_of (codes " PROCEDURE") refl

abbrev LineHolds : dump.Entry → Type 0
LineHolds (line.Call name p) = IsWord name
LineHolds (line.Shown name what) = IsWord name × WhatHolds what
LineHolds entry = ⊤

entry_texts : (e : dump.Entry) → LineHolds e → IsText (entry_text e)
entry_texts (line.Block p) h = text_append (text_of (codes "  BLOCK ") refl) (place_texts p)
entry_texts (line.Call name p) h = text_append (text_append (text_append (text_of (codes "  CALL ") refl) (text_of_word h)) (text_of (codes " FROM ") refl)) (place_texts p)
entry_texts (line.Actual p) h = text_append (text_of (codes "  ACTUAL ") refl) (place_texts p)
entry_texts (line.For p) h = text_append (text_of (codes "  FOR ") refl) (place_texts p)
entry_texts (line.Shown name what) h = text_append (text_append (text_of (codes "    ") refl) (text_of_word h.0)) (what_text what h.1)

-- ---- the front of a line

-- a text that isn't all blanks begins as it does without the blanks at its end
pub begins_trimmed : (c : ℕ) (rest : List ℕ) (k : ℕ) → k < length (c ∷ rest) → (get_or (c ∷ rest) k 0 ≡ 32 → ⊥) → (more : List ℕ) × (trimmed (c ∷ rest) ≡ c ∷ more)
begins_trimmed c rest k l h = go (trimmed (c ∷ rest)) (suffix_len (λ b. b == 32) (c ∷ rest)) (trimmed_and_blanks (c ∷ rest))
  where
    go : (t : List ℕ) (n : ℕ) → c ∷ rest ≡ t ++ blanks n → (more : List ℕ) × (t ≡ c ∷ more)
    go [] n e = absurd (h (subst (All (λ x. x ≡ 32)) (sym e) (All-replicate (λ x. x ≡ 32) n 32 refl) k 0 l))
    go (a ∷ t) n e = (t, ap (λ x. x ∷ t) (sym (ap (λ xs. get_or xs 0 0) e)))

indented : (rest : List ℕ) (k : ℕ) → k < length (32 ∷ rest) → (get_or (32 ∷ rest) k 0 ≡ 32 → ⊥) → IsIndented (trimmed (32 ∷ rest))
indented rest k l h = let b = begins_trimmed 32 rest k l h in record { behind = b.0; is = b.1 }

shown_indented : (what : Shown) → IsIndented (dump_text (line.Shown [] what))
shown_indented shown.Undefined = indented (codes "    = ?") 5 (omega arith) (λ e. omega (arith, e))
shown_indented (shown.Simple v) = indented (take 131 (codes "    = " ++ value_text v)) 5 (omega arith) (λ e. omega (arith, e))
shown_indented (shown.Record class id) = indented (take 131 (codes "    = " ++ class ++ codes "." ++ decimal (id.0 + 1))) 5 (omega arith) (λ e. omega (arith, e))
shown_indented (shown.Bounds d) = indented (take 131 (codes "    ARRAY (" ++ bounds_text d ++ codes ")")) 5 (omega arith) (λ e. omega (arith, e))
shown_indented shown.ByName = indented (codes "    NAME") 5 (omega arith) (λ e. omega (arith, e))
shown_indented shown.Procedure = indented (codes "    PROCEDURE") 5 (omega arith) (λ e. omega (arith, e))

entry_indented : (e : dump.Entry) → LineHolds e → IsIndented (dump_text e)
entry_indented (line.Block p) h = indented (take 131 (codes " BLOCK " ++ place_text p)) 2 (omega arith) (λ e. omega (arith, e))
entry_indented (line.Call name p) h = indented (take 131 (codes " CALL " ++ name ++ codes " FROM " ++ place_text p)) 2 (omega arith) (λ e. omega (arith, e))
entry_indented (line.Actual p) h = indented (take 131 (codes " ACTUAL " ++ place_text p)) 2 (omega arith) (λ e. omega (arith, e))
entry_indented (line.For p) h = indented (take 131 (codes " FOR " ++ place_text p)) 2 (omega arith) (λ e. omega (arith, e))
entry_indented (line.Shown [] what) h = shown_indented what
entry_indented (line.Shown (c ∷ name) what) h = indented (take 131 (codes "   " ++ (c ∷ name) ++ shown_text what)) 4 (omega arith) (λ e. omega (arith, e, (All-head IsVisible c name h.0.each).0))

-- ---- the dump of a state

module _ {P : Type 0} (s : State P) (h : StateHolds s) where
  record_what : (r : RecordId) (o : Option RecordInfo) → IfSome o RecordHolds → WhatHolds (shown_record r o)
  record_what r None k = tt
  record_what r (Some info) k = text_of_word k

  value_what : (v : Value) → ValueHolds v → WhatHolds (shown_value s v)
  value_what (value.Integer n) k = tt
  value_what (value.Logical b) k = tt
  value_what (value.Bits n) k = tt
  value_what (value.Str t) k = k
  value_what (value.Reference None) k = tt
  value_what (value.Reference (Some r)) k = record_what r (slice_get s.records r.0) (found RecordHolds s.records r.0 h.records)

  variable_what : (o : Option (Option Value)) → IfSome o VariableHolds → WhatHolds (shown_variable s o)
  variable_what None k = tt
  variable_what (Some None) k = tt
  variable_what (Some (Some v)) k = value_what v k

  array_what : (o : Option (Option ArrayInfo)) (given : List (Option ℤ)) → WhatHolds (shown_array o given)
  array_what None given = tt
  array_what (Some None) given = tt
  array_what (Some (Some a)) given = tt

  held_what : (x : Held) → WhatHolds (shown_held s x)
  held_what (a_variable k) = variable_what (slice_get s.memory k) (found VariableHolds s.memory k h.memory)
  held_what (an_array k given) = array_what (slice_get s.arrays k) given
  held_what (a_number n) = tt
  held_what by_name = tt
  held_what a_procedure = tt

  names_hold : (xs : List ShownName) → All ShownHolds xs → All LineHolds (shown_names s xs)
  names_hold [] k = All-nil LineHolds
  names_hold (x ∷ xs) k = All-cons LineHolds _ (shown_names s xs) (All-head ShownHolds x xs k, held_what x.held) (names_hold xs (All-tail ShownHolds x xs k))

  entry_holds : (e : Entry) → EntryHolds e → All LineHolds (entry_lines s e)
  entry_holds (in_block p names) k = All-cons LineHolds (line.Block p) (shown_names s names) tt (names_hold names k)
  entry_holds (in_call x p names) k = All-cons LineHolds (line.Call x p) (shown_names s names) k.0 (names_hold names k.1)
  entry_holds (in_actual p) k = All-cons LineHolds (line.Actual p) [] tt (All-nil LineHolds)
  entry_holds (in_turn p names) k = All-cons LineHolds (line.For p) (shown_names s names) tt (names_hold names k)

  all_hold : (es : List Entry) → All EntryHolds es → All LineHolds (all_lines s es)
  all_hold [] k = All-nil LineHolds
  all_hold (e ∷ es) k = All-append LineHolds (entry_lines s e) (all_lines s es) (entry_holds e (All-head EntryHolds e es k)) (all_hold es (All-tail EntryHolds e es k))

  dump_texts : All IsText (dump_lines s)
  dump_texts =
      let es = take 40 (all_lines s s.active) in
      let hold : All LineHolds es = All-take LineHolds 40 (all_lines s s.active) (all_hold s.active h.active) in
      All-map IsText dump_text es (λ k d l. text_trimmed (text_take 132 (entry_texts _ (hold k d l))))

  dump_indented : All IsIndented (dump_lines s)
  dump_indented =
      let es = take 40 (all_lines s s.active) in
      let hold : All LineHolds es = All-take LineHolds 40 (all_lines s s.active) (all_hold s.active h.active) in
      All-map IsIndented dump_text es (λ k d l. entry_indented _ (hold k d l))

pub dumped_texts : {P A : Type 0} (r : Outcome P A) → StateHolds (state_of r) → All IsText (dump_of r)
dumped_texts (on a s) h = All-nil IsText
dumped_texts (jump l s) h = dump_texts s h
dumped_texts (stop y w s) h = dump_texts s h

pub dumped_indented : {P A : Type 0} (r : Outcome P A) → StateHolds (state_of r) → All IsIndented (dump_of r)
dumped_indented (on a s) h = All-nil IsIndented
dumped_indented (jump l s) h = dump_indented s h
dumped_indented (stop y w s) h = dump_indented s h

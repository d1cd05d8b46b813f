-- The last line of a text.
use Rattle.std.proofs.Common.{◌≡◌, ℕ, ◌-◌, ◌≤◌, ◌<◌, ◌==◌, not, Bool, true, List, [], ◌∷◌, ◌++◌, length, take, drop, reverse, refl, sym, ap, ◌∙◌, arith, append_assoc, append-nil, get_or, subst}
use Rattle.std.specs.List.{list_all, prefix_len, suffix_len}
use Rattle.std.proofs.lemmas.Grind.{reverse_onto}
use Rattle.std.proofs.lemmas.List.{append_cancel_right, drop_at, get_or_at, length-append, length-reverse, reverse-append, take_at}
use Rattle.listing_parts.specs.Laws.{LinesOnce}
use Rattle.listing_parts.specs.Lines.{is_line, text_up, IsUpward}
use Rattle.listing_parts.specs.Reads.{LastLine}
use Rattle.listing_parts.proofs.Tests.{and_left, and_right, all_append, all_pass, front_passes}

all_reverse : (p : ℕ → Bool) (xs : List ℕ) → list_all p xs ≡ true → list_all p (reverse xs) ≡ true
all_reverse p [] h = refl
all_reverse p (x ∷ xs) h =
    rw (reverse_onto xs x [])
    (all_append p (reverse xs) (x ∷ []) (all_reverse p xs (and_right (p x) (list_all p xs) h)) (rw (and_left (p x) (list_all p xs) h) refl))

-- how long the last line is, which no line feed ends
pub last_length : (up : List (List ℕ)) (line : List ℕ) → is_line line ≡ true → suffix_len (λ b. not (b == 10)) (text_up up ++ line) ≡ length line
last_length [] line h = all_pass (λ b. not (b == 10)) (reverse line) (all_reverse (λ b. not (b == 10)) line h) ∙ length-reverse line
last_length (above ∷ up) line h =
    let body = text_up up ++ above in
    let turned : reverse (((text_up up ++ above) ++ 10 ∷ []) ++ line) ≡ reverse line ++ (10 ∷ reverse (text_up up ++ above)) =
    reverse-append ((text_up up ++ above) ++ 10 ∷ []) line ∙ ap (λ (r : List ℕ). reverse line ++ r) (reverse-append (text_up up ++ above) (10 ∷ [])) in
    ap (prefix_len (λ b. not (b == 10))) turned
    ∙ front_passes (λ b. not (b == 10)) (reverse line) 10 (reverse (text_up up ++ above)) (all_reverse (λ b. not (b == 10)) line h) refl
    ∙ length-reverse line

-- ---- the last line, by its length

body_is : (text : List ℕ) (line : List ℕ) (up : List (List ℕ)) → text ≡ (text_up up ++ line) ++ 10 ∷ [] → take (length text - 1) text ≡ text_up up ++ line
body_is text line up e =
    let long : length (text_up up ++ line) ≡ length text - 1 = omega (arith, ap length e, length-append (text_up up ++ line) (10 ∷ [])) in
    ap (take (length text - 1)) e ∙ take_at (text_up up ++ line) (10 ∷ []) (length text - 1) long

pub reads_last : (text : List ℕ) (count : ℕ) (lines : List (List ℕ)) (above last : List ℕ) → IsUpward text lines → 1 ≤ length text
    → count ≡ suffix_len (λ b. not (b == 10)) (take (length text - 1) text)
    → above ≡ take (length (take (length text - 1) text) - count) (take (length text - 1) text)
    → last ≡ drop (length (take (length text - 1) text) - count) (take (length text - 1) text)
    → LastLine lines above last
reads_last text count [] above last h some counted a b = absurd (omega (arith, ap length h.whole))
reads_last text count (line ∷ up) above last h some counted a b =
    let body = body_is text line up h.whole in
    let each : is_line line ≡ true = and_left (is_line line) (list_all is_line up) h.each in
    let long : count ≡ length line = counted ∙ ap (suffix_len (λ b. not (b == 10))) body ∙ last_length up line each in
    let start : length (text_up up) ≡ length (take (length text - 1) text) - count = omega (arith, ap length body, length-append (text_up up) line) in
    let a_is : above ≡ text_up up = a ∙ ap (take (length (take (length text - 1) text) - count)) body ∙ take_at (text_up up) line (length (take (length text - 1) text) - count) start in
    let b_is : last ≡ line = b ∙ ap (drop (length (take (length text - 1) text) - count)) body ∙ drop_at (text_up up) line (length (take (length text - 1) text) - count) start in
    record {
      up = up;
      is = ap (λ l. l ∷ up) (sym b_is);
      rest = record { whole = a_is; each = and_right (is_line line) (list_all is_line up) h.each };
    }

-- ---- no last line

no_text : (line : List ℕ) (up : List (List ℕ)) → text_up (line ∷ up) ≡ [] → ⊥
no_text line up e = omega (arith, ap length e, length-append (text_up up ++ line) (10 ∷ []))

pub no_line : (text : List ℕ) (lines : List (List ℕ)) → IsUpward text lines → length text < 1 → lines ≡ []
no_line text [] h none = refl
no_line text (line ∷ up) h none = absurd (omega (arith, ap length h.whole, length-append (text_up up ++ line) (10 ∷ [])))

ends_so : (line : List ℕ) (up : List (List ℕ)) (text : List ℕ) → text ≡ (text_up up ++ line) ++ 10 ∷ [] → get_or text (length text - 1) 0 ≡ 10
ends_so line up text e =
    let long : length (text_up up ++ line) ≡ length text - 1 = omega (arith, ap length e, length-append (text_up up ++ line) (10 ∷ [])) in
    ap (λ (t : List ℕ). get_or t (length text - 1) 0) e ∙ get_or_at (text_up up ++ line) 10 [] 0 (length text - 1) long

pub no_feed : (text : List ℕ) (lines : List (List ℕ)) → IsUpward text lines → (get_or text (length text - 1) 0 ≡ 10 → ⊥) → lines ≡ []
no_feed text [] h other = refl
no_feed text (line ∷ up) h other = absurd (other (ends_so line up text h.whole))

-- the last line, and what stands above it
pub last_is : (last line above : List ℕ) (up : List (List ℕ)) → LastLine (last ∷ up) above line → (line ≡ last) × IsUpward above up
last_is last line above up l =
    let read : last ∷ up ≡ line ∷ l.up = l.is in
    let lines : l.up ≡ up = cc in
    let P : List (List ℕ) → Type 0 = λ ls. IsUpward above ls in
    (cc, subst P lines l.rest)

-- the text of lines above others
pub text_up-append : (xs ys : List (List ℕ)) → text_up (xs ++ ys) ≡ text_up ys ++ text_up xs
text_up-append [] ys = sym (append-nil (text_up ys))
text_up-append (x ∷ xs) ys =
    ap (λ (t : List ℕ). t ++ x ++ 10 ∷ []) (text_up-append xs ys)
    ∙ simp append_assoc

-- ---- a text has one list of lines

same_lines : (lines lines' : List (List ℕ)) → text_up lines ≡ text_up lines' → list_all is_line lines ≡ true → list_all is_line lines' ≡ true → lines ≡ lines'
same_lines [] [] e h h' = refl
same_lines [] (line ∷ up) e h h' = absurd (no_text line up (sym e))
same_lines (line ∷ up) [] e h h' = absurd (no_text line up e)
same_lines (line ∷ up) (line' ∷ up') e h h' =
    let body : text_up up ++ line ≡ text_up up' ++ line' = append_cancel_right (text_up up ++ line) (text_up up' ++ line') (10 ∷ []) e in
    let long : length line ≡ length line' =
    sym (last_length up line (and_left (is_line line) (list_all is_line up) h))
    ∙ ap (suffix_len (λ b. not (b == 10))) body
    ∙ last_length up' line' (and_left (is_line line') (list_all is_line up') h') in
    let start : length (text_up up') ≡ length (text_up up) = omega (arith, ap length body, length-append (text_up up) line, length-append (text_up up') line') in
    let above : text_up up ≡ text_up up' =
    sym (take_at (text_up up) line (length (text_up up)) refl) ∙ ap (take (length (text_up up))) body ∙ take_at (text_up up') line' (length (text_up up)) start in
    let last : line ≡ line' =
    sym (drop_at (text_up up) line (length (text_up up)) refl) ∙ ap (drop (length (text_up up))) body ∙ drop_at (text_up up') line' (length (text_up up)) start in
    let rest : up ≡ up' = same_lines up up' above (and_right (is_line line) (list_all is_line up) h) (and_right (is_line line') (list_all is_line up') h') in
    cc

pub lines_once : LinesOnce
lines_once text lines lines' h h' = same_lines lines lines' (sym h.whole ∙ h'.whole) h.each h'.each

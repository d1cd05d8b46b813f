-- The lines of a text that lines make.
use Rattle.std.proofs.Common.{◌≡◌, ℕ, ◌+◌, ◌==◌, ◌||◌, Bool, true, false, List, [], ◌∷◌, ◌++◌, length, drop, map, refl, sym, ap, ◌∙◌, arith, append_assoc, append-nil}
use Rattle.std.specs.List.{AllByRecursion, list_any}
use Rattle.std.proofs.lemmas.Grind.{flat_map-append}
use Rattle.std.proofs.lemmas.List.{drop_at, length-append}
use Rattle.deck_reader.specs.Cards.{all_but_last, cards, cleaned, ended, last_of, parts, pieces, under_way, unless_empty}
use Rattle.night_shares.specs.Lines.{text_of_lines}
use Rattle.night_shares.specs.Plan.{row}
use Rattle.night_shares.specs.Reading.{IsInLine}
use Rattle.night_shares.proofs.FirstLines.{first_line, parts_fed}

pub text_one : (line : List ℕ) (lines : List (List ℕ)) → text_of_lines (line ∷ lines) ≡ line ++ 10 ∷ text_of_lines lines
text_one line lines = append_assoc line (10 ∷ []) (text_of_lines lines)

-- the parts of such a text are the lines, and nothing behind the last line feed
pub parts_of_lines : (lines : List (List ℕ)) → AllByRecursion IsInLine lines → parts (text_of_lines lines) ≡ lines ++ [] ∷ []
parts_of_lines [] all = refl
parts_of_lines (line ∷ lines) all =
    ap parts (text_one line lines) ∙ parts_fed line (text_of_lines lines) all.0 ∙ ap (λ (ps : List (List ℕ)). line ∷ ps) (parts_of_lines lines all.1)

but_last : (lines : List (List ℕ)) → all_but_last (lines ++ [] ∷ []) ≡ lines
but_last [] = refl
but_last (a ∷ []) = refl
but_last (a ∷ b ∷ lines) = ap (λ (ls : List (List ℕ)). a ∷ ls) (but_last (b ∷ lines))

the_last : (lines : List (List ℕ)) → last_of (lines ++ [] ∷ []) ≡ []
the_last [] = refl
the_last (a ∷ []) = refl
the_last (a ∷ b ∷ lines) = the_last (b ∷ lines)

pub ended_lines : (lines : List (List ℕ)) → AllByRecursion IsInLine lines → ended (text_of_lines lines) ≡ lines
ended_lines lines all = ap all_but_last (parts_of_lines lines all) ∙ but_last lines

pub under_lines : (lines : List (List ℕ)) → AllByRecursion IsInLine lines → under_way (text_of_lines lines) ≡ []
under_lines lines all = ap last_of (parts_of_lines lines all) ∙ the_last lines

-- its cards are those of the lines
pub cards_of_lines : (lines : List (List ℕ)) → AllByRecursion IsInLine lines → cards (text_of_lines lines) ≡ map cleaned lines
cards_of_lines lines all =
    ap (λ (ps : List (List ℕ)). map cleaned (all_but_last ps ++ unless_empty (last_of ps))) (parts_of_lines lines all)
    ∙ ap (λ (l : List ℕ). map cleaned (all_but_last (lines ++ [] ∷ []) ++ unless_empty l)) (the_last lines)
    ∙ ap (map cleaned) (append-nil (all_but_last (lines ++ [] ∷ [])) ∙ but_last lines)

-- a line more
pub text_push : (done : List (List ℕ)) (line : List ℕ) → text_of_lines done ++ line ++ 10 ∷ [] ≡ text_of_lines (done ++ line ∷ [])
text_push done line =
    append_assoc (text_of_lines done) line (10 ∷ [])
    ∙ ap (λ (t : List ℕ). text_of_lines done ++ t) (sym (append-nil (row line)))
    ∙ sym (flat_map-append row done (line ∷ []))

-- ---- one line off

abbrev first_of : List (List ℕ) → List ℕ
first_of [] = []
first_of (x ∷ xs) = x

-- a text has one first line
pub same_line : (a b x y : List ℕ) → IsInLine a → IsInLine b → a ++ 10 ∷ x ≡ b ++ 10 ∷ y → (a ≡ b) × (x ≡ y)
same_line a b x y one other same =
    let heads : a ≡ b = ap first_of (sym (first_line a x one) ∙ ap pieces same ∙ first_line b y other) in
    let regroup : (c z : List ℕ) → c ++ 10 ∷ z ≡ (c ++ 10 ∷ []) ++ z = λ c z. sym (append_assoc c (10 ∷ []) z) in
    let long : length (a ++ 10 ∷ []) ≡ length a + 1 = omega (arith, length-append a (10 ∷ [])) in
    let long_b : length (b ++ 10 ∷ []) ≡ length a + 1 = omega (arith, length-append b (10 ∷ []), ap length heads) in (
      heads,
      sym (drop_at (a ++ 10 ∷ []) x (length a + 1) long) ∙ ap (drop (length a + 1)) (sym (regroup a x) ∙ same ∙ regroup b y) ∙ drop_at (b ++ 10 ∷ []) y (length a + 1) long_b,
    )

or_true : (b : Bool) → (b || true) ≡ true
or_true true = refl
or_true false = refl

feed_stands : (a x : List ℕ) → list_any (λ b. b == 10) (a ++ 10 ∷ x) ≡ true
feed_stands [] x = refl
feed_stands (c ∷ a) x = ap (λ (v : Bool). c == 10 || v) (feed_stands a x) ∙ or_true (c == 10)

-- a text of lines without a line feed has no line
pub no_lines : (lines : List (List ℕ)) → list_any (λ b. b == 10) (text_of_lines lines) ≡ false → lines ≡ []
no_lines [] none = refl
no_lines (line ∷ lines) none =
    absurd (let there : list_any (λ b. b == 10) (text_of_lines (line ∷ lines)) ≡ true = ap (list_any (λ b. b == 10)) (text_one line lines) ∙ feed_stands line (text_of_lines lines) in cc)

-- a text of lines that is split at its first line feed
pub line_off : (lines : List (List ℕ)) (front behind : List ℕ) → AllByRecursion IsInLine lines → IsInLine front → text_of_lines lines ≡ front ++ 10 ∷ behind
    → (others : List (List ℕ)) × (lines ≡ front ∷ others) × (behind ≡ text_of_lines others) × AllByRecursion IsInLine others
line_off [] front behind all none is = absurd (let there : list_any (λ b. b == 10) [] ≡ true = ap (list_any (λ b. b == 10)) is ∙ feed_stands front behind in cc)
line_off (line ∷ lines) front behind all none is =
    let same = same_line line front (text_of_lines lines) behind all.0 none (sym (text_one line lines) ∙ is) in
    (lines, ap (λ (l : List ℕ). l ∷ lines) same.0, sym same.1, all.1)

-- Where an item starts: on the card of a place, or else behind that card.
use Rattle.std.proofs.Common.{◌≡◌, ℕ, ◌+◌, ◌-◌, ◌%◌, ◌<◌, ◌≤◌, ◌==◌, true, false, cond, List, length, drop, sym, ap, ◌∙◌, add-zero, arith}
use Rattle.std.proofs.lemmas.Bool.{cond-true, cond-false, eq-eqb, ne_eqb, ltb-false}
use Rattle.std.proofs.lemmas.List.{length-take, drop-drop, drop_all, drop_min, take-append-drop}
use Rattle.std.proofs.lemmas.List.Sums.{prefix_len-le-length}
use Rattle.std.proofs.lemmas.List.Folds.{prefix_len-append}
use Rattle.std.specs.List.{prefix_len}
use Rattle.input_editing.specs.Columns.{columns, line_at, is_on_card}
use Rattle.input_editing.specs.Scanning.{is_blank, item_start}

-- the line of a place, and what is behind it
abbrev pub behind_line : List (List ℕ) → ℕ → List ℕ
behind_line cards place = drop (80 - place % 80) (drop place (columns cards))

blanks_left : (cards : List (List ℕ)) (place : ℕ) → prefix_len is_blank (drop place (columns cards)) ≡ cond (prefix_len is_blank (line_at cards place) == length (line_at cards place)) (length (line_at cards place) + prefix_len is_blank (behind_line cards place)) (prefix_len is_blank (line_at cards place))
blanks_left cards place =
    ap (prefix_len is_blank) (sym (take-append-drop (80 - place % 80) (drop place (columns cards))))
    ∙ prefix_len-append is_blank (line_at cards place) (behind_line cards place)

-- what is behind a line is what is left so many columns further
behind_line_is : (cards : List (List ℕ)) (place : ℕ) → behind_line cards place ≡ drop (place + length (line_at cards place)) (columns cards)
behind_line_is cards place =
    let rest = drop place (columns cards) in
    sym (drop_min (80 - place % 80) rest)
    ∙ ap (λ (n : ℕ). drop n rest) (sym (length-take (80 - place % 80) rest))
    ∙ drop-drop (length (line_at cards place)) place (columns cards)

-- it is on the card of a place, where the line isn't blank
pub item_start_here : (cards : List (List ℕ)) (place n : ℕ) → n ≡ prefix_len is_blank (line_at cards place) → n < length (line_at cards place) → item_start cards place ≡ place + n
item_start_here cards place n is short =
    let line = line_at cards place in
    let test : (prefix_len is_blank line == length line) ≡ false = ne_eqb (prefix_len is_blank line) (length line) (λ e. omega arith) in
    ap (λ (k : ℕ). place + k) (blanks_left cards place ∙ cond-false _ _ _ test ∙ sym is)

-- it is behind the card, where the line is blank
pub item_start_later : (cards : List (List ℕ)) (place n : ℕ) → n ≡ prefix_len is_blank (line_at cards place) → length (line_at cards place) ≤ n → item_start cards place ≡ item_start cards (place + n)
item_start_later cards place n is all =
    let line = line_at cards place in
    let long : n ≡ length line = omega (arith, prefix_len-le-length is_blank line) in
    let test : (prefix_len is_blank line == length line) ≡ true = eq-eqb (prefix_len is_blank line) (length line) (sym is ∙ long) in
    let behind : prefix_len is_blank (behind_line cards place) ≡ prefix_len is_blank (drop (place + n) (columns cards)) = ap (prefix_len is_blank) (behind_line_is cards place) ∙ ap (λ (k : ℕ). prefix_len is_blank (drop (place + k) (columns cards))) (sym long) in
    let left : prefix_len is_blank (drop place (columns cards)) ≡ length line + prefix_len is_blank (behind_line cards place) = blanks_left cards place ∙ cond-true _ _ _ test in
    omega arith

-- it is here, where no card is left
pub item_start_none : (cards : List (List ℕ)) (place : ℕ) → is_on_card cards place ≡ false → item_start cards place ≡ place
item_start_none cards place none =
    ap (λ (xs : List ℕ). place + prefix_len is_blank xs) (drop_all place (columns cards) (ltb-false place (length (columns cards)) none)) ∙ add-zero place

-- The columns of cards: each card has 80, so a place on a card is one of its columns.
use Rattle.std.proofs.Common.{◌≡◌, ℕ, zero, suc, ◌+◌, ◌-◌, ◌*◌, ◌%◌, ◌<◌, ◌≤◌, true, false, List, [], ◌∷◌, ◌++◌, length, take, drop, get_or, refl, sym, ap, ◌∙◌, arith}
use Rattle.std.proofs.lemmas.Bool.{lt-ltb, le-ltb}
use Rattle.std.proofs.lemmas.List.{length-append, length-take-le, length-drop, length-replicate, drop-drop, drop-append-le, drop_at, take_all, take_at}
use Rattle.short_text.specs.Blanks.{blanks}
use Rattle.value_ops.specs.Strings.{filled}
use Rattle.input_editing.specs.Columns.{card_columns, columns, line_at, is_on_card}

length-filled : (card : List ℕ) → 80 ≤ length (filled 80 card)
length-filled card = omega (arith, length-append card (blanks (80 - length card)), length-replicate {A = ℕ} (80 - length card) 32)

pub length-card_columns : (card : List ℕ) → length (card_columns card) ≡ 80
length-card_columns card = length-take-le 80 (filled 80 card) (length-filled card)

-- a card of at most 80 characters is filled to 80
pub card_columns_filled : (card : List ℕ) → length card ≤ 80 → card_columns card ≡ filled 80 card
card_columns_filled card short = take_all 80 (filled 80 card) (omega (arith, length-append card (blanks (80 - length card)), length-replicate {A = ℕ} (80 - length card) 32))

pub length-columns : (cards : List (List ℕ)) → length (columns cards) ≡ 80 * length cards
length-columns [] = refl
length-columns (card ∷ cards) = omega (arith, length-append (card_columns card) (columns cards), length-card_columns card, length-columns cards)

-- from a column of a card on
pub drop-columns : (cards : List (List ℕ)) (i j : ℕ) → i < length cards → j ≤ 80 → drop (80 * i + j) (columns cards) ≡ drop j (card_columns (get_or cards i [])) ++ columns (drop (i + 1) cards)
drop-columns [] i j within on = absurd (omega arith)
drop-columns (card ∷ cards) zero j within on =
    let start : 80 * zero + j ≡ j = omega arith in
    ap (λ (n : ℕ). drop n (card_columns card ++ columns cards)) start
    ∙ drop-append-le j (card_columns card) (columns cards) (omega (arith, length-card_columns card))
drop-columns (card ∷ cards) (suc i) j within on =
    let place = 80 * i + j in
    let start : 80 * suc i + j ≡ 80 + place = omega arith in
    let next : suc (i + 1) ≡ suc i + 1 = omega arith in
    ap (λ (n : ℕ). drop n (card_columns card ++ columns cards)) start
    ∙ sym (drop-drop place 80 (card_columns card ++ columns cards))
    ∙ ap (drop place) (drop_at (card_columns card) (columns cards) 80 (length-card_columns card))
    ∙ drop-columns cards i j (omega arith) on
    ∙ ap (λ (n : ℕ). drop j (card_columns (get_or cards i [])) ++ columns (drop n (card ∷ cards))) next

-- what is left of a card
pub line_at_card : (cards : List (List ℕ)) (i j : ℕ) → i < length cards → j < 80 → line_at cards (80 * i + j) ≡ drop j (card_columns (get_or cards i []))
line_at_card cards i j within on =
    let line = drop j (card_columns (get_or cards i [])) in
    let column : (80 * i + j) % 80 ≡ j = omega arith in
    (λ k. take (80 - column k) (drop-columns cards i j within (omega arith) k))
    ∙ take_at line (columns (drop (i + 1) cards)) (80 - j) (omega (arith, length-drop j (card_columns (get_or cards i [])), length-card_columns (get_or cards i [])))

pub on_card : (cards : List (List ℕ)) (i j : ℕ) → i < length cards → j < 80 → is_on_card cards (80 * i + j) ≡ true
on_card cards i j within on = lt-ltb (80 * i + j) (length (columns cards)) (omega (arith, length-columns cards))

pub behind_cards : (cards : List (List ℕ)) (i j : ℕ) → length cards ≤ i → is_on_card cards (80 * i + j) ≡ false
behind_cards cards i j behind = le-ltb (80 * i + j) (length (columns cards)) (omega (arith, length-columns cards))

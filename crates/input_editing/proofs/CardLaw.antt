-- Cards are read whole.
use Rattle.std.proofs.Common.{◌≡◌, ℕ, ◌+◌, ◌*◌, ◌<◌, ◌≤◌, false, cond, List, [], ◌∷◌, ◌++◌, length, Result, Ok, Err, refl, sym, ap, ◌∙◌, add-zero, arith}
use Rattle.std.proofs.lemmas.Bool.{cond-true, cond-false, le-ltb}
use Rattle.std.proofs.lemmas.List.{length-append, get_or_at}
use Rattle.value_ops.specs.Strings.{filled}
use Rattle.value_ops.specs.declared.faults.Fault.{Fault}
use Rattle.value_ops.specs.declared.faults.Fault.TheVariants.{NoDataLeft}
use Rattle.input_editing.specs.Columns.{card_columns, columns, card_end, line_at, is_on_card, card_read}
use Rattle.input_editing.specs.Laws.{AreReadWhole}
use Rattle.input_editing.proofs.CardColumns.{card_columns_filled, length-columns, line_at_card, on_card}

-- the card that is read, by where it begins
abbrev read_at : List (List ℕ) → ℕ → Result (List ℕ × ℕ) Fault
read_at cards start = cond (is_on_card cards start) (Ok (line_at cards start, start + 80)) (Err NoDataLeft)

card_is_read : (before : List (List ℕ)) (card : List ℕ) (behind : List (List ℕ)) (place : ℕ) → length card ≤ 80 → card_end place ≡ 80 * length before → card_read (before ++ card ∷ behind) place ≡ Ok (filled 80 card, 80 * length before + 80)
card_is_read before card behind place short end =
    let cards = before ++ card ∷ behind in
    let n = length before in
    let within : n < length cards = omega (arith, length-append before (card ∷ behind)) in
    let first : card_end place ≡ 80 * n + 0 = end ∙ sym (add-zero (80 * n)) in
    let line : line_at cards (80 * n + 0) ≡ filled 80 card = line_at_card cards n 0 within (omega arith) ∙ ap card_columns (get_or_at before card behind [] n refl) ∙ card_columns_filled card short in
    let to : 80 * n + 0 + 80 ≡ 80 * n + 80 = omega arith in
    ap (read_at cards) first
    ∙ cond-true (is_on_card cards (80 * n + 0)) (Ok (line_at cards (80 * n + 0), 80 * n + 0 + 80)) (Err NoDataLeft) (on_card cards n 0 within (omega arith))
    ∙ (λ i. Ok (line i, to i))

no_card : (cards : List (List ℕ)) (place : ℕ) → 80 * length cards ≤ card_end place → card_read cards place ≡ Err NoDataLeft
no_card cards place past =
    let none : is_on_card cards (card_end place) ≡ false = le-ltb (card_end place) (length (columns cards)) (omega (arith, length-columns cards)) in
    cond-false (is_on_card cards (card_end place)) (Ok (line_at cards (card_end place), card_end place + 80)) (Err NoDataLeft) none

pub cards_are_read_whole : AreReadWhole
cards_are_read_whole = record { card = card_is_read; none = no_card }

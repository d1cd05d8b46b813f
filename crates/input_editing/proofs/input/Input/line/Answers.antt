use Rattle.std.proofs.Common.{◌≡◌, ◌∙◌, [], drop, get_or, sym, ap}
use Rattle.std.proofs.lemmas.List.{take_rest}
use Rattle.input_editing.specs.Columns.{card_columns}
use Rattle.input_editing.proofs.CardColumns.{behind_cards, on_card, line_at_card}
use Rattle.input_editing.proofs.input.Input.line.Goals as goal

pub returns-in_err-get-clause-line : goal.returns-in_err-get-clause-line
returns-in_err-get-clause-line c = rw (c.from_residual.ensures, ← c.self.view_is) (behind_cards c.args.cards.now c.self.inside.card c.self.inside.column c.in_err-get.ensures.lookup.3)

pub returns-clause-line : goal.returns-clause-line
returns-clause-line c =
    let cards = c.args.cards.now in
    let i = c.self.inside.card in
    let j = c.self.inside.column in
    let found = c.in_ok-get.ensures.lookup.3 in
    let line : c.from_slice.result ≡ drop j (card_columns (get_or cards i [])) =
    c.from_slice.ensures
    ∙ take_rest c.as_slice.result.now j
    ∙ ap (drop j) (c.as_slice.ensures.value ∙ c.columns_of-columns.ensures.columns ∙ ap card_columns (found.1 [])) in
    rw (← c.self.view_is) (on_card cards i j found.0 c.self.invariant.0, line ∙ sym (line_at_card cards i j found.0 c.self.invariant.0))

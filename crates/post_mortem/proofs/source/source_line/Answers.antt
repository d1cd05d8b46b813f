use Rattle.std.proofs.Common.{◌≡◌, length, ap, ◌∙◌, arith}
use Rattle.short_text.specs.Blanks.{trimmed}
use Rattle.post_mortem.proofs.Columns.{card_line}
use Rattle.post_mortem.proofs.source.source_line.Goals as goal

pub returns : goal.returns
returns c =
    let none : length c.new-line.result ≡ 0 = ap length c.new-line.ensures in
    let number = rw c.new-line.ensures at c.append_right.ensures.text in
    let card = rw c.as_slice.ensures.value at c.append-3.ensures in
    c.without_end_blanks.ensures ∙ ap trimmed (card_line _ _ _ _ _ _ _ _ c.as_slice.ensures.short number (omega (arith, none, c.append_right.ensures.columns)) c.append.ensures c.append_count.ensures.text c.append_count.ensures.columns c.append-2.ensures card)

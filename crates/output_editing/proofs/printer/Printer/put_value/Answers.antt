use Rattle.std.proofs.Common.{◌≡◌, ℕ, List, [], ◌∷◌, ◌++◌, subst, ap, ◌∙◌}
use Rattle.short_text.specs.Blanks.{right}
use Rattle.line_text.specs.Texts.{bits_text}
use Rattle.output_editing.specs.Layout.{Put}
use Rattle.output_editing.specs.Page.{HasPrinted}
use Rattle.output_editing.proofs.printer.Printer.put_value.Goals as goal

pub returns-in-Bits-clause-printed : goal.returns-in-Bits-clause-printed
returns-in-Bits-clause-printed c = λ pieces is.
    let Printed : List ℕ → ℕ → Type 0 = λ text blanks. HasPrinted c.put-in-Bits.new.self (pieces ++ Put text blanks ∷ []) in
    let blanks : c.from-blanks.result ≡ c.args.widths.blanks = c.from-blanks.ensures in
    let text : c.as_slice-in-Bits.result.now ≡ right 14 (bits_text c.in-Bits.bits) = c.as_slice-in-Bits.ensures.value ∙ c.text_field-in-Bits.ensures ∙ ap (right 14) c.bits_text.ensures in
    rw c.in-Bits.is (subst (Printed (right 14 (bits_text c.in-Bits.bits))) blanks (subst (λ t. Printed t c.from-blanks.result) text (c.put-in-Bits.ensures.printed pieces is)))

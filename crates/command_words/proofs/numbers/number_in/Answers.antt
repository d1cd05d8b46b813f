use Rattle.std.proofs.Common.{◌∙◌, sym, arith}
use Rattle.command_words.proofs.Digits.{no_number}
use Rattle.command_words.proofs.numbers.number_in.Goals as goal

pub returns-in_err-number : goal.returns-in_err-number
returns-in_err-number c =
    c.from_residual.ensures
    ∙ sym (no_number c.args.least c.args.most c.args.text.now c.parse.result (sym c.are_digits.ensures ∙ c.if-not-are_digits.false) c.parse.ensures.value.0
    (sym c.ok.ensures.value ∙ c.in_err-number.was) (omega (arith, c.ranges.most.fits)))

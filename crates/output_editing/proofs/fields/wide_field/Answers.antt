use Rattle.std.proofs.Common.{◌≤◌, ℤ, length, subst, sym, arith}
use Rattle.std.specs.Fmt.{signed_decimal}
use Rattle.std.proofs.lemmas.Fmt.{length_signed_le}
use Rattle.output_editing.proofs.Digits.{widened}
use Rattle.output_editing.proofs.fields.wide_field.Goals as goal

pub number-requires-clause-fits : goal.number-requires-clause-fits
number-requires-clause-fits c =
    let IsShort : ℤ → Type 0 = λ z. length (signed_decimal z) ≤ c.args.width in
    let most = length_signed_le 10 c.args.number (omega (arith, c.ranges.number.sfits)) (omega (arith, c.ranges.number.sfits)) in
    subst IsShort (sym (widened c.from.result c.args.number c.ranges.number c.from.ensures)) (omega (arith, most, c.requires.enough))

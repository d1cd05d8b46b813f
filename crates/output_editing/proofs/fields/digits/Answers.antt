use Rattle.std.proofs.Common.{List, ℕ, ◌++◌, take, ap, ◌∙◌, arith, w64, to_z, of_z}
use Rattle.std.proofs.lemmas.List.{take_all}
use Rattle.std.specs.Fmt.{signed_decimal}
use Rattle.std.proofs.lemmas.Fmt.{length_signed_le}
use Rattle.output_editing.proofs.Digits.{widened}
use Rattle.output_editing.proofs.fields.digits.Goals as goal

pub returns : goal.returns
returns c =
    let same = widened c.from.result c.args.number c.ranges.number c.from.ensures in
    let short = length_signed_le 10 c.args.number (omega (arith, c.ranges.number.sfits)) (omega (arith, c.ranges.number.sfits)) in
    c.append_number.ensures
    ∙ ap (λ (t : List ℕ). take 132 (t ++ signed_decimal (to_z w64 (of_z w64 c.from.result)))) c.new-line.ensures
    ∙ ap (λ z. take 132 (signed_decimal z)) same
    ∙ take_all 132 (signed_decimal c.args.number) (omega (arith, short))

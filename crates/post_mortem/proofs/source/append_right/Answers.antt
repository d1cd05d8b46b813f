use Rattle.std.proofs.Common.{◌≤◌, ◌+◌, ℕ, length, decimal, ap, ◌∙◌, arith}
use Rattle.std.proofs.lemmas.Fmt.{length-decimal-le}
use Rattle.std.proofs.lemmas.List.{length-append}
use Rattle.short_text.specs.Blanks.{right}
use Rattle.post_mortem.proofs.Columns.{written, length-right}
use Rattle.post_mortem.proofs.source.append_right.Goals as goal

pub number-requires-clause-fits : goal.number-requires-clause-fits
number-requires-clause-fits c =
    rw (written c.args.number c.from.result c.ranges.number.fits c.from.ensures) (length-decimal-le c.args.columns c.args.number c.requires.some c.requires.digits (omega (arith, c.ranges.number.fits)))

pub returns-clause-columns : goal.returns-clause-columns
returns-clause-columns c =
    let fits : length (decimal c.args.number) ≤ c.args.columns = length-decimal-le c.args.columns c.args.number c.requires.some c.requires.digits (omega (arith, c.ranges.number.fits)) in
    let text = rw (written c.args.number c.from.result c.ranges.number.fits c.from.ensures) at (c.number.ensures.room c.requires.room) in
    ap length text ∙ length-append c.args.line.now (right c.args.columns (decimal c.args.number)) ∙ ap (λ (n : ℕ). length c.args.line.now + n) (length-right c.args.columns (decimal c.args.number) fits)

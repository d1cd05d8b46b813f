use Rattle.algolw_scanner.proofs.Runs.{too_large}
use Rattle.algolw_scanner.proofs.lexeme.value.Goals as goal

pub returns-then-value-gt-LARGEST : goal.returns-then-value-gt-LARGEST
returns-then-value-gt-LARGEST c =
    too_large c.loop-digit.value c.args.digits.now c.loop-digit.digit-index c.from.result c.loop-digit-test.true c.from.ensures c.if-value-gt-LARGEST.true c.loop-digit.invariant.1

use Rattle.std.proofs.Common.{arith}
use Rattle.algolw_scanner.proofs.Runs.{below_eight}
use Rattle.algolw_scanner.proofs.lexeme.hex_value.Goals as goal

pub overflow_mul-value : goal.overflow_mul-value
overflow_mul-value c = omega (arith, below_eight c.loop-c.value c.loop-c.c-index c.loop-c.invariant.0 (omega arith))

pub overflow_add-value : goal.overflow_add-value
overflow_add-value c = omega (arith, below_eight c.loop-c.value c.loop-c.c-index c.loop-c.invariant.0 (omega arith))

pub overflow_cast-result : goal.overflow_cast-result
overflow_cast-result c = omega (arith, below_eight c.loop-c.value c.loop-c.c-index c.loop-c.invariant.0 (omega arith))

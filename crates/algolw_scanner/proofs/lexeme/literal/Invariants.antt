use Rattle.std.proofs.Common.{◌≡◌, ◌+◌, ◌≤◌, length}
use Rattle.std.specs.Option.{option_map}
use Rattle.algolw_scanner.specs.Front.{literal}
use Rattle.algolw_scanner.proofs.Literal.{better, behind}
use Rattle.algolw_scanner.proofs.lexeme.literal.Given as goal

abbrev pub invariant-loop-rest : goal.invariant-loop-rest
invariant-loop-rest l = (length l.said + length l.rest ≤ 80) × (better (option_map (λ x. (x.0, x.1.now)) l.closed) (behind l.said (literal l.rest)) ≡ literal l.line)

abbrev pub decreases-loop-rest : goal.decreases-loop-rest
decreases-loop-rest l = length l.rest

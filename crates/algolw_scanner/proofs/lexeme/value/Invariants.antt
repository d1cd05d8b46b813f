use Rattle.std.proofs.Common.{◌≡◌, ◌≤◌, drop}
use Rattle.algolw_tree.specs.Chars.{value_from}
use Rattle.algolw_scanner.proofs.lexeme.value.Given as goal

abbrev pub invariant-loop-digit : goal.invariant-loop-digit
invariant-loop-digit l = (l.value ≤ 2147483647) × (value_from l.value (drop l.digit-index l.digits) ≡ value_from 0 l.digits)

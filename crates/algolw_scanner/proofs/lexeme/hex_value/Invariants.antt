use Rattle.std.proofs.Common.{◌≡◌, ◌<◌, ◌^◌, drop}
use Rattle.algolw_tree.specs.Chars.{hex_from}
use Rattle.algolw_scanner.proofs.lexeme.hex_value.Given as goal

abbrev pub invariant-loop-c : goal.invariant-loop-c
invariant-loop-c l = (l.value < 16 ^ l.c-index) × (hex_from l.value (drop l.c-index l.digits) ≡ hex_from 0 l.digits)

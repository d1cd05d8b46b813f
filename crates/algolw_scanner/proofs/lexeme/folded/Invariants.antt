use Rattle.std.proofs.Common.{◌≡◌, map, take}
use Rattle.std.specs.Char.{to_ascii_uppercase}
use Rattle.algolw_scanner.proofs.lexeme.folded.Given as goal

abbrev pub invariant-loop-c : goal.invariant-loop-c
invariant-loop-c l = l.name ≡ map to_ascii_uppercase (take l.c-index l.spelled)

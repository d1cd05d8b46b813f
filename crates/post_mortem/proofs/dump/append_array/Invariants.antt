use Rattle.std.proofs.Common.{◌≡◌, ◌++◌, take, map, codes}
use Rattle.std.specs.List.{join_with_byte}
use Rattle.post_mortem.specs.Shown.{pair_text}
use Rattle.post_mortem.proofs.dump.append_array.Given as goal

abbrev pub invariant-loop-i : goal.invariant-loop-i
invariant-loop-i l = l.line ≡ take 132 (l.fn.line ++ (codes " ARRAY (" ++ join_with_byte 44 (map pair_text (take l.i l.bounds))))

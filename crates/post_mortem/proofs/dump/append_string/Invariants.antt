use Rattle.std.proofs.Common.{◌≡◌, ◌++◌, take, codes}
use Rattle.post_mortem.specs.Values.{quoted}
use Rattle.post_mortem.proofs.dump.append_string.Given as goal

abbrev pub invariant-loop-character : goal.invariant-loop-character
invariant-loop-character l = l.line ≡ take 132 (l.fn.line ++ (codes "\"" ++ quoted (take l.character-index l.string)))

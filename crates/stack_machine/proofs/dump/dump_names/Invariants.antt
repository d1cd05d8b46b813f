use Rattle.std.proofs.Common.{◌≡◌, ◌≤◌, ◌++◌, take, map, length, vec_capacity}
use Rattle.post_mortem.specs.Dump.{dump_text}
use Rattle.stack_machine.specs.Dumped as dumped
use Rattle.stack_machine.proofs.dump.dump_names.Given as goal

abbrev pub invariant-loop-number : goal.invariant-loop-number
invariant-loop-number l = (40 ≤ vec_capacity l.lines) × (length l.lines.items ≤ 40) × (l.lines.items ≡ take 40 (l.initial.lines.items ++ map dump_text (dumped.name_lines l.code l.state (dumped.between l.first l.number l.state.store.entries))))

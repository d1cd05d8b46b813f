use Rattle.std.proofs.Common.{◌≤◌, length, vec_capacity}
use Rattle.stack_machine.proofs.DumpLines.{Shows}
use Rattle.stack_machine.proofs.dump.dump_into.Given as goal

abbrev pub invariant-loop-number : goal.invariant-loop-number
invariant-loop-number l = (40 ≤ vec_capacity l.lines) × (length l.lines.items ≤ 40) × Shows l.code l.state l.number l.end l.lines.items

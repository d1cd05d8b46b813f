use Rattle.std.proofs.Common.{◌≡◌, ◌++◌, map, take, drop}
use Rattle.stack_code.specs.Linking.{linked_coded}
use Rattle.stack_code.proofs.linking.link_instructions.Given as goal

abbrev pub invariant-loop-number : goal.invariant-loop-number
invariant-loop-number l = l.instructions ≡ map (linked_coded l.targets) (take l.number l.initial.instructions) ++ drop l.number l.initial.instructions

use Rattle.std.proofs.Common.{◌≡◌, ◌++◌, map, take, drop}
use Rattle.stack_code.specs.Linking.{linked_call}
use Rattle.stack_code.proofs.linking.link_calls.Given as goal

abbrev pub invariant-loop-number : goal.invariant-loop-number
invariant-loop-number l = l.calls ≡ map (linked_call l.targets) (take l.number l.initial.calls) ++ drop l.number l.initial.calls

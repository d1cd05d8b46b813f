use Rattle.std.proofs.Common.{◌≡◌, ◌++◌, map, take, drop}
use Rattle.stack_code.specs.Linking.{linked_text}
use Rattle.stack_code.proofs.linking.link_texts.Given as goal

abbrev pub invariant-loop-number : goal.invariant-loop-number
invariant-loop-number l = l.texts ≡ map (linked_text l.targets) (take l.number l.initial.texts) ++ drop l.number l.initial.texts

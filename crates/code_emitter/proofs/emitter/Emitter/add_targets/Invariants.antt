use Rattle.std.proofs.Common.{◌≡◌, ◌++◌, None, replicate}
use Rattle.code_emitter.specs.Appending.{with_targets}
use Rattle.code_emitter.proofs.emitter.Emitter.add_targets.Given as goal

abbrev pub invariant-loop : goal.invariant-loop
invariant-loop l = record {
  added : l.self.targets.items ≡ l.fn.self.targets.items ++ replicate l.counter None;
  rest : l.self ≡ with_targets l.fn.self l.self.targets;
}

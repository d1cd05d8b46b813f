use Rattle.std.proofs.Common.{◌≡◌, drop, take}
use Rattle.code_emitter.proofs.emitter.Emitter.compared.Given as goal

abbrev pub invariant-loop-head : goal.invariant-loop-head
invariant-loop-head l = l.heads.items ≡ take l.head-index (drop l.pending l.fn.self.pending.items)

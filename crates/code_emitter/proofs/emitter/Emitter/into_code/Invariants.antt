use Rattle.std.proofs.Common.{◌≡◌, take}
use Rattle.code_emitter.specs.Appending.{final_targets}
use Rattle.code_emitter.proofs.emitter.Emitter.into_code.Given as goal

abbrev pub invariant-loop-target : goal.invariant-loop-target
invariant-loop-target l = l.found.items ≡ final_targets (take l.target-index l.fn.self.targets.items)

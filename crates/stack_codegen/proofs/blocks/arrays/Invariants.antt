use Rattle.std.proofs.Common.{drop}
use Rattle.code_emitter.specs.Parts.{next, none_own, scene}
use Rattle.code_emitter.proofs.Remaining.{Remains}
use Rattle.stack_codegen.proofs.DeclaredNames.{left_arrays}
use Rattle.stack_codegen.proofs.blocks.arrays.Given as goal

-- what is left of the names
abbrev pub invariant-loop-name : goal.invariant-loop-name
invariant-loop-name l = Remains none_own l.fn.emitter l.emitter (left_arrays l.here l.kind l.name-items (scene l.fn.emitter) (next l.fn.emitter)) (left_arrays l.here l.kind (drop l.name-index l.name-items)) 0 0 0

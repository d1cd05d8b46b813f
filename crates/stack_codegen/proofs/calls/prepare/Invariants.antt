use Rattle.std.proofs.Common.{take}
use Rattle.code_emitter.specs.Parts.{Codes, none_own, place_in, scene}
use Rattle.stack_codegen.specs.Calls.{compared_call, heads_prepared}
use Rattle.stack_codegen.proofs.calls.prepare.Given as goal

abbrev pub invariant-loop-formal : goal.invariant-loop-formal
invariant-loop-formal l = Codes none_own l.fn.emitter l.emitter (λ ts. heads_prepared (place_in (scene l.fn.emitter) l.here) (compared_call l.fn.emitter ts l.call).source 0 (take l.formal (compared_call l.fn.emitter ts l.call).heads)) 0 0

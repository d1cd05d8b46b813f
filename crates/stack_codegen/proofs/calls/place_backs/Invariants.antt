use Rattle.std.proofs.Common.{drop}
use Rattle.stack_codegen.proofs.CallLoops.{PlacesBy}
use Rattle.stack_codegen.proofs.calls.place_backs.Given as goal

abbrev pub invariant-loop-actual : goal.invariant-loop-actual
invariant-loop-actual l = PlacesBy l.fn.emitter l.emitter l.here l.pending l.actuals (drop l.actual-index l.actuals) l.position

use Rattle.std.proofs.Common.{◌≡◌, ◌+◌, drop}
use Rattle.phrase_code.specs.Sizes.{place_backs_size, prepares_size}
use Rattle.code_emitter.specs.Parts.{next, scene}
use Rattle.stack_codegen.specs.Calls.{actuals_given}
use Rattle.stack_codegen.proofs.calls.end_of_call.Given as goal

abbrev pub invariant-loop-actual : goal.invariant-loop-actual
invariant-loop-actual l = l.end + (prepares_size (actuals_given (scene l.emitter) (drop l.actual-index l.actuals)) + place_backs_size (actuals_given (scene l.emitter) (drop l.actual-index l.actuals))) ≡ next l.emitter + (2 + (prepares_size (actuals_given (scene l.emitter) l.actuals) + place_backs_size (actuals_given (scene l.emitter) l.actuals)))

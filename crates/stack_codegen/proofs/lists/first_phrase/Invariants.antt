use Rattle.std.proofs.Common.{◌≡◌, drop}
use Rattle.stack_codegen.specs.Listed.{first_phrase}
use Rattle.stack_codegen.proofs.lists.first_phrase.Given as goal

abbrev pub invariant-loop-actual : goal.invariant-loop-actual
invariant-loop-actual l = first_phrase (drop l.actual-index l.actuals) ≡ first_phrase l.actuals

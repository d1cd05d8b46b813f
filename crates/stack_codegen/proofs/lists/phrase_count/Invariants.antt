use Rattle.std.proofs.Common.{◌≡◌, ◌+◌, drop}
use Rattle.stack_codegen.specs.Listed.{phrase_count}
use Rattle.stack_codegen.proofs.lists.phrase_count.Given as goal

abbrev pub invariant-loop-actual : goal.invariant-loop-actual
invariant-loop-actual l = l.count + phrase_count (drop l.actual-index l.actuals) ≡ phrase_count l.actuals

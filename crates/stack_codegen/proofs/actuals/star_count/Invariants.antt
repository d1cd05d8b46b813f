use Rattle.std.proofs.Common.{◌≡◌, ◌+◌, drop}
use Rattle.stack_codegen.specs.Listed.{star_count}
use Rattle.stack_codegen.proofs.actuals.star_count.Given as goal

abbrev pub invariant-loop-subscript : goal.invariant-loop-subscript
invariant-loop-subscript l = l.count + star_count (drop l.subscript-index l.subscripts) ≡ star_count l.subscripts

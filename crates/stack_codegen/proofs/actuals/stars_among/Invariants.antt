use Rattle.std.proofs.Common.{◌≡◌, ◌++◌, drop, map}
use Rattle.stack_codegen.specs.Listed.{is_star}
use Rattle.stack_codegen.proofs.actuals.stars_among.Given as goal

abbrev pub invariant-loop-subscript : goal.invariant-loop-subscript
invariant-loop-subscript l = l.are.items ++ map is_star (drop l.subscript-index l.subscripts) ≡ map is_star l.subscripts

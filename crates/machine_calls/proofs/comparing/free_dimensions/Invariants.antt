use Rattle.std.proofs.Common.{◌≡◌, ◌+◌, ◌≤◌, drop, map}
use Rattle.program_meaning.specs.Copying.{stars}
use Rattle.machine_calls.proofs.comparing.free_dimensions.Given as goal

abbrev pub invariant-loop-dimension : goal.invariant-loop-dimension
invariant-loop-dimension l = record {
  rest : l.count + stars (map (λ d. d.given) (drop l.dimension-index l.dimensions)) ≡ stars (map (λ d. d.given) l.dimensions);
  few : l.count ≤ l.dimension-index;
}

use Rattle.std.proofs.Common.{◌≡◌, ◌≤◌, ◌*◌, map, min, drop}
use Rattle.cell_store.specs.Arrays.{dimension, elements}
use Rattle.cell_store.proofs.dimension.count_elements.Given as goal

abbrev pub invariant-loop-bound : goal.invariant-loop-bound
invariant-loop-bound l = record {
  rest : min (l.count * elements (map dimension (drop l.bound-index l.bounds))) 32768 ≡ min (elements (map dimension l.bounds)) 32768;
  most : l.count ≤ 32768;
}

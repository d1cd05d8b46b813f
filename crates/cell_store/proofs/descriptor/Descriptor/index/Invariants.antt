use Rattle.std.proofs.Common.{◌≡◌, ◌≤◌, map, drop, Some}
use Rattle.cell_store.specs.Held.{further_all}
use Rattle.cell_store.proofs.descriptor.Descriptor.index.Given as goal

abbrev pub invariant-loop-dimension : goal.invariant-loop-dimension
invariant-loop-dimension l = record {
  rest : further_all (drop l.dimension-index l.self.dimensions) (drop l.next (map (λ i. Some i) l.subscripts)) l.offset ≡ further_all l.self.dimensions (map (λ i. Some i) l.subscripts) 0;
  most : l.offset ≤ 32768;
  few : l.next ≤ l.dimension-index;
}

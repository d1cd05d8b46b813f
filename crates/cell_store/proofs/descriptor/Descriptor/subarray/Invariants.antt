use Rattle.std.proofs.Common.{◌≤◌, drop}
use Rattle.cell_store.proofs.Placing.{Begun, Giving}
use Rattle.cell_store.proofs.descriptor.Descriptor.subarray.Given as goal

abbrev pub invariant-loop-k : goal.invariant-loop-k
invariant-loop-k l = record {
  begun : Begun l.dimensions l.k;
  giving : Giving l.self.dimensions l.dimensions l.k l.subscripts (drop l.next l.subscripts);
  few : l.next ≤ l.k;
}

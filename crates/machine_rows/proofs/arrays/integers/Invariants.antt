use Rattle.std.proofs.Common.{◌≡◌, length, take, drop, Some}
use Rattle.machine_rows.specs.Contents.{ints_of}
use Rattle.machine_rows.proofs.arrays.integers.Given as goal

abbrev pub invariant-loop-k : goal.invariant-loop-k
invariant-loop-k l = record {
  long : length l.numbers ≡ 16;
  so_far : ints_of (take l.k (drop l.first l.store.cells)) ≡ Some (take l.k l.numbers);
}

use Rattle.std.proofs.Common.{◌≡◌, ◌*◌, length, take}
use Rattle.machine_rows.specs.Contents.{pairs_of}
use Rattle.machine_rows.proofs.arrays.paired.Given as goal

abbrev pub invariant-loop-k : goal.invariant-loop-k
invariant-loop-k l = record {
  long : length l.pairs ≡ 8;
  so_far : take l.k l.pairs ≡ pairs_of (take (2 * l.k) l.numbers);
}

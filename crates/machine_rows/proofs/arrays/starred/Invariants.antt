use Rattle.std.proofs.Common.{◌≡◌, ◌++◌, ◌≤◌, length, take, drop}
use Rattle.stack_code.specs.Table.{starred}
use Rattle.machine_rows.proofs.arrays.starred.Given as goal

abbrev pub invariant-loop-k : goal.invariant-loop-k
invariant-loop-k l = record {
  long : length l.subscripts ≡ 8;
  few : l.next ≤ l.k;
  so_far : take l.k l.subscripts ++ starred (drop l.k l.stars) (drop l.next l.numbers) ≡ starred l.stars l.numbers;
}

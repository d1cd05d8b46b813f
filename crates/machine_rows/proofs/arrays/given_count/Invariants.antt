use Rattle.std.proofs.Common.{◌≡◌, ◌+◌, ◌≤◌, drop}
use Rattle.stack_code.specs.Table.{cells_of}
use Rattle.machine_rows.proofs.arrays.given_count.Given as goal

abbrev pub invariant-loop-star : goal.invariant-loop-star
invariant-loop-star l = record {
  rest : l.count + cells_of (drop l.star-index l.stars) ≡ cells_of l.stars;
  few : l.count ≤ l.star-index;
}

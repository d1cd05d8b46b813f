use Rattle.std.proofs.Common.{◌≡◌, ◌≤◌, length, take}
use Rattle.std.specs.Prelude.{vec_capacity}
use Rattle.cell_store.proofs.display.fill_up.Given as goal

abbrev pub invariant-loop : goal.invariant-loop
invariant-loop g l = record {
  kept : take (length l.fn.items.items) l.items.items ≡ l.fn.items.items;
  long : length l.items.items ≡ l.counter;
  capacity : vec_capacity l.items ≡ vec_capacity l.fn.items;
}

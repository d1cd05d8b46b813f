use Rattle.std.proofs.Common.{◌≡◌, ◌≤◌, length, take, max}
use Rattle.std.specs.Prelude.{vec_capacity}
use Rattle.cell_store.proofs.shelf.fill_up.Given as goal

abbrev pub invariant-loop : goal.invariant-loop
invariant-loop l = record {
  kept : take (length l.fn.beside.items) l.beside.items ≡ l.fn.beside.items;
  long : length l.beside.items ≡ l.counter;
  most : l.counter ≤ max l.count (length l.fn.beside.items);
  capacity : vec_capacity l.beside ≡ vec_capacity l.fn.beside;
}

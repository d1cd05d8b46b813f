use Rattle.std.proofs.Common.{◌≡◌, ◌++◌, ◌-◌, ◌≤◌, replicate}
use Rattle.cell_store.specs.Cells.{nothing}
use Rattle.cell_store.proofs.shelf.Shelf.push_empty.Given as goal

abbrev pub invariant-loop-left : goal.invariant-loop-left
invariant-loop-left l = record {
  filled : l.self ≡ record l.fn.self { cells = l.fn.self.cells ++ replicate (l.count - l.left) nothing };
  most : l.left ≤ l.count;
}

abbrev pub decreases-loop-left : goal.decreases-loop-left
decreases-loop-left l = l.left

use Rattle.std.proofs.Common.{◌≡◌, ◌+◌, ◌++◌, take}
use Rattle.machine_calls.specs.Found as found
use Rattle.machine_calls.proofs.texts.enter_formals.Given as goal

abbrev pub invariant-loop-formal : goal.invariant-loop-formal
invariant-loop-formal l = record {
  cell : l.cell ≡ l.base + l.formal-index;
  state : l.state ≡ record l.fn.state { store = record l.fn.state.store { entries = l.fn.state.store.entries ++ found.formal_entries l.base (take l.formal-index l.formals) } };
}

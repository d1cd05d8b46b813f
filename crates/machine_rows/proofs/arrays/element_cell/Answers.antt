use Rattle.std.proofs.Common.{◌≡◌, ◌<◌, sym, ap, subst}
use Rattle.std.specs.Prelude.{Ok, Some, IfSome}
use Rattle.cell_store.specs.Arrays.{Array, index_of}
use Rattle.machine_rows.specs.Pushed.{found_cell}
use Rattle.machine_rows.proofs.arrays.element_cell.Goals as goal

pub returns-in-Some : goal.returns-in-Some
returns-in-Some c = record {
  cell = subst (λ o. IfSome o (λ (a : Array). Some c.in-Some.cell ≡ found_cell (index_of a c.args.subscripts.now))) (sym c.array_out-array.ensures)
      (ap found_cell (sym (subst (λ r. IfSome r (λ cell. index_of c.array_out-array.result.now c.args.subscripts.now ≡ Ok (Some cell))) c.in-Some.is c.index_at_once.ensures.value)));
  few = subst (λ r. IfSome r (λ cell. cell < 32768)) c.in-Some.is c.index_at_once.ensures.within;
}

pub returns-in-None : goal.returns-in-None
returns-in-None c = record {
  cell = subst (λ o. IfSome o (λ (a : Array). c.indexed.result ≡ found_cell (index_of a c.args.subscripts.now))) (sym c.array_out-array.ensures) c.indexed.ensures.cell;
  few = c.indexed.ensures.few;
}

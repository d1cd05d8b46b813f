use Rattle.std.proofs.Common.{◌<◌, sym, ap, ◌∙◌, subst}
use Rattle.std.specs.Prelude.{IfSome, IfOk}
use Rattle.machine_rows.specs.Pushed.{found_cell}
use Rattle.machine_rows.proofs.arrays.indexed.Goals as goal

pub returns-in-Ok : goal.returns-in-Ok
returns-in-Ok c = record {
  cell = ap found_cell (sym c.in-Ok.is ∙ c.index.ensures.value);
  few = subst (λ r. IfOk r (λ found. IfSome found (λ cell. cell < 32768))) c.in-Ok.is c.index.ensures.within;
}

pub returns-in-Err : goal.returns-in-Err
returns-in-Err c = record {
  cell = ap found_cell (sym c.in-Err.is ∙ c.index.ensures.value);
  few = tt;
}

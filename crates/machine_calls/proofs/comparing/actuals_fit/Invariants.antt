use Rattle.machine_calls.proofs.Fits.{RestFits}
use Rattle.machine_calls.proofs.comparing.actuals_fit.Given as goal

abbrev pub invariant-loop-index : goal.invariant-loop-index
invariant-loop-index l = record {
  rest : RestFits l.code l.store l.formals l.heads l.index;
}

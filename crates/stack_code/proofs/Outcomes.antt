-- More rows leave an outcome as it is.
use Rattle.std.proofs.Common.{◌≡◌, zero, suc, ◌+◌, refl, sym, ap, ◌∙◌, subst, arith}
use Rattle.stack_code.specs.Machine.{Machine}
use Rattle.stack_code.specs.Run.{Outcome, IsOver, Stepped, further, over, row, rows, continued}
use Rattle.stack_code.specs.Laws.{OutcomesStay}

-- what goes on with an outcome at each machine goes on with it
continued_as : (f g : Machine → Outcome) (s : Stepped) (o : Outcome) → ((m : Machine) → f m ≡ o → g m ≡ o) → continued f s ≡ o → continued g s ≡ o
continued_as f g (further m) o h e = h m e
continued_as f g (over p) o h e = e

pub outcomes_stay : OutcomesStay
outcomes_stay set code zero more m o h e = absurd (subst IsOver (sym e) h refl)
outcomes_stay set code (suc n) more m o h e =
    let q : suc n + more ≡ suc (n + more) = omega arith in
    ap (λ k. rows set code k m) q ∙ continued_as (rows set code n) (rows set code (n + more)) (row set code m) o (λ n' i. outcomes_stay set code n more n' o h i) e

-- What the rule says at each moment.
use Rattle.std.proofs.Common.{ℕ, ◌≤◌, sum_by, suc, ◌-◌, sym, ap, subst, arith}
use Rattle.std.proofs.lemmas.List.Sums.{sum_by-append, get_or-le-sum_by}
use Rattle.job_queue.specs.declared.ticket.Ticket.{Ticket}
use Rattle.job_queue.specs.Rule.{Rises}
use Rattle.job_queue.specs.Laws.{ListAndQueue, TakenAreBelow}
use Rattle.job_queue.proofs.Lists.{in_sum, next_number, rises_front, rises_rest, rises_all, weighs_nothing}

pub list_and_queue : ListAndQueue
list_and_queue items views pass v kept at right =
    let all = (kept.knows pass v at).all right in
    record {
      rises = subst (Rises 0) (sym all) kept.rises;
      held = (kept.gone, all);
      once = λ f. let t = kept.taken f in let a = sum_by-append f kept.gone items in let p = ap (sum_by f) all in omega (arith, t, a, p);
    }

pub taken_are_below : TakenAreBelow
taken_are_below items views pass v kept at taken held was is =
    let n = next_number 0 kept.gone in
    let weight : Ticket → ℕ = λ t. suc t.number - n in
    let nothing = weighs_nothing weight 0 n kept.gone (rises_front 0 kept.gone items kept.rises) (omega arith) (λ t low. omega (arith, low)) in
    let all = kept.taken weight in
    let mine = in_sum (λ u. sum_by weight u.taken) views pass v at in
    let one = get_or-le-sum_by weight v.taken was.0 taken was.1 in
    let this = ap weight was.2 in
    let later : n ≤ held.number = subst (λ (t : Ticket). n ≤ t.number) is.2 (rises_all n items (rises_rest 0 kept.gone items kept.rises) is.0 held is.1) in
    omega (arith, nothing, all, mine, one, this, later)

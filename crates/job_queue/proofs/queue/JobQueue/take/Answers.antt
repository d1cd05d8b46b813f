use Rattle.std.proofs.Common.{rules, arith, ap, sym, ◌∙◌}
use Rattle.job_queue.proofs.Keeps.{takes, accounts, finds_empty, more_amount}
use Rattle.crossbeam_queue.specs.Passes.{view}
use Rattle.job_queue.proofs.queue.JobQueue.take.Goals as goal

pub pop_as-requires-clause-rule : goal.pop_as-requires-clause-rule
pop_as-requires-clause-rule g c = (takes _ _ (let p = c.args.pass.now.parts in let s = c.args.pass.now.some in omega (arith, p, s)), accounts _ _)

pub another-receipt-requires-clause-rule : goal.another-receipt-requires-clause-rule
another-receipt-requires-clause-rule g c = finds_empty _ _

pub overflow_add-owed : goal.overflow_add-owed
overflow_add-owed g c = let r = c.in-Some.ensures.rule in let m = more_amount (view c.args.pass.now.pass) (view c.pop_as.new.pass) c.in-Some.ticket r.0 in let b = r.1 in let a = c.args.pass.now.adds_up in let s = c.amount.ensures in omega (arith, m, b, a, s)

pub invariant_of-pass : goal.invariant_of-pass
invariant_of-pass g c = let r = c.in-Some.ensures.rule in let m = more_amount (view c.args.pass.now.pass) (view c.pop_as.new.pass) c.in-Some.ticket r.0 in let a = c.args.pass.now.adds_up in let s = c.amount.ensures in
    record {
      here = search rules;
      at_rest = search rules;
      some = c.args.pass.now.some;
      parts = ap (λ v. v.parts) r.0 ∙ c.args.pass.now.parts;
      no_list = λ z. ap (λ v. v.put) r.0 ∙ c.args.pass.now.no_list (sym (ap (λ v. v.rights) r.0) ∙ z);
      adds_up = omega (arith, m, a, s);
    }

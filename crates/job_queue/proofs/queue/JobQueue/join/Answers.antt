use Rattle.std.proofs.Common.{rules, arith, ap, ◌∙◌}
use Rattle.job_queue.proofs.Keeps.{joins, bounded, both_amount, both_none}
use Rattle.crossbeam_queue.specs.Passes.{view}
use Rattle.job_queue.proofs.queue.JobQueue.join.Goals as goal

pub absorb-requires-clause-rule : goal.absorb-requires-clause-rule
absorb-requires-clause-rule g c = joins _ _ _ _

pub learn_as-requires-clause-rule : goal.learn_as-requires-clause-rule
learn_as-requires-clause-rule g c = bounded _ _

pub overflow_add-owed : goal.overflow_add-owed
overflow_add-owed g c = let m = both_amount (view c.args.pass.now.pass) (view c.args.other.pass) (view c.absorb.new.pass) c.absorb.ensures.rule in let b = c.learn_as.ensures.rule.1.0 in let a = c.args.pass.now.adds_up in let d = c.args.other.adds_up in
    omega (arith, m, b, a, d)

pub invariant_of-pass : goal.invariant_of-pass
invariant_of-pass g c = let v = c.learn_as.ensures.queue.1 ∙ c.absorb.ensures.rule in let m = both_amount (view c.args.pass.now.pass) (view c.args.other.pass) (view c.learn_as.new.pass) v in let a = c.args.pass.now.adds_up in let d = c.args.other.adds_up in
    let s = c.merge.ensures.amount in let p = c.merge.ensures.parts in let n = c.args.pass.now.some in
    record {
      here = search rules;
      at_rest = search rules;
      some = omega (arith, p, n);
      parts = (let e = ap (λ v. v.parts) v in let l = c.args.pass.now.parts in let r = c.args.other.parts in omega (arith, e, l, r, p));
      no_list = λ z. let e = ap (λ v. v.rights) v in ap (λ v. v.put) v ∙ both_none _ _ (c.args.pass.now.no_list (omega (arith, e, z))) (c.args.other.no_list (omega (arith, e, z)));
      adds_up = omega (arith, m, a, d, s);
    }

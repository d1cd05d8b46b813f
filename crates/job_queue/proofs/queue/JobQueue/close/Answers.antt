use Rattle.std.proofs.Common.{rules, arith, ◌++◌, ap, ◌∙◌}
use Rattle.job_queue.proofs.Keeps.{joins, bounded, both_amount}
use Rattle.crossbeam_queue.specs.Passes.{view}
use Rattle.job_queue.specs.Rule.{amount_of}
use Rattle.job_queue.proofs.queue.JobQueue.close.Goals as goal

pub absorb-requires-clause-rule : goal.absorb-requires-clause-rule
absorb-requires-clause-rule g c = joins _ _ _ _

pub learn_as-requires-clause-rule : goal.learn_as-requires-clause-rule
learn_as-requires-clause-rule g c = bounded _ _

pub returns-clause-put : goal.returns-clause-put
returns-clause-put g c = let v = c.learn_as.ensures.queue.1 ∙ c.absorb.ensures.rule in let one = c.learn_as.ensures.rule.1.1 in let right = c.args.put.right in let w = ap (λ v. v.rights) c.absorb.ensures.rule in
    ap (λ v. v.put) v ∙ ap (λ l. l ++ (view c.args.put.pass).put) (c.args.pass.now.no_list (omega (arith, one, right, w)))

pub returns-clause-right : goal.returns-clause-right
returns-clause-right g c = let v = c.learn_as.ensures.queue.1 ∙ c.absorb.ensures.rule in let one = c.learn_as.ensures.rule.1.1 in let right = c.args.put.right in let e = ap (λ v. v.rights) v in let w = ap (λ v. v.rights) c.absorb.ensures.rule in
    omega (arith, e, w, right, one)

pub invariant_of-pass : goal.invariant_of-pass
invariant_of-pass g c = let v = c.learn_as.ensures.queue.1 ∙ c.absorb.ensures.rule in let m = both_amount (view c.args.pass.now.pass) (view c.args.put.pass) (view c.learn_as.new.pass) v in let a = c.args.pass.now.adds_up in let t = ap amount_of c.args.put.none_taken in
    record {
      here = search rules;
      at_rest = search rules;
      some = c.args.pass.now.some;
      parts = (let e = ap (λ v. v.parts) v in let l = c.args.pass.now.parts in let r = c.args.put.no_part in omega (arith, e, l, r));
      no_list = λ z. let e = ap (λ v. v.rights) v in let right = c.args.put.right in absurd (omega (arith, e, z, right));
      adds_up = omega (arith, m, a, t);
    }

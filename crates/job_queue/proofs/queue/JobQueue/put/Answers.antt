use Rattle.std.proofs.Common.{arith, ap, sym, ◌∙◌}
use Rattle.job_queue.proofs.Keeps.{puts, holds_end, finds_full}
use Rattle.job_queue.specs.declared.rule.PassView.{PassView}
use Rattle.job_queue.proofs.queue.JobQueue.put.Goals as goal

pub push_as-requires-clause-rule : goal.push_as-requires-clause-rule
push_as-requires-clause-rule g c = (puts _ _ _ _ (let p = c.args.pass.now.right in omega (arith, p)) c.requires.rises, holds_end _ _)

pub another-receipt-requires-clause-rule : goal.another-receipt-requires-clause-rule
another-receipt-requires-clause-rule g c =
    let found = c.in-Err.ensures.rule in let right = c.args.pass.now.right in let full = found.2.1 in let most = (found.2.2 (omega (arith, right))).1 in let same = ap (λ (v : PassView). v.held) found.1 in
    let sized = c.args.self.now.ring.sized.1 in let here = ap (λ t. t.slots) c.args.self.now.here in
    finds_full _ _ _ (omega (arith, full, most, same, sized, here))

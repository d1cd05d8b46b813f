use Rattle.std.proofs.Common.{arith}
use Rattle.job_queue.proofs.Keeps.{parts_off}
use Rattle.job_queue.proofs.queue.JobQueue.split.Goals as goal

pub another-theirs-requires-clause-rule : goal.another-theirs-requires-clause-rule
another-theirs-requires-clause-rule g c = parts_off _ _ (let p = c.args.pass.now.parts in let s = c.requires in omega (arith, p, s))

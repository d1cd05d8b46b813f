use Rattle.job_queue.proofs.Keeps.{aparts}
use Rattle.job_queue.proofs.fresh.FreshQueue.open.Goals as goal

pub another-rest-requires-clause-rule : goal.another-rest-requires-clause-rule
another-rest-requires-clause-rule g c = aparts _ _

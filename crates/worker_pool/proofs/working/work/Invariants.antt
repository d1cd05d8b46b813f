use Rattle.std.proofs.Common.{◌≡◌}
use Rattle.worker_pool.proofs.working.work.Given as goal

abbrev pub invariant-loop : goal.invariant-loop
invariant-loop g l = (l.pass.owed ≡ 0) × (l.pass.share.parts ≡ l.fn.pass.share.parts)

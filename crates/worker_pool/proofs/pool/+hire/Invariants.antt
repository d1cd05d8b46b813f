use Rattle.std.proofs.Common.{length}
use Rattle.worker_pool.proofs.pool.+hire.Given as goal

abbrev pub decreases-hire : goal.decreases-hire
decreases-hire g l = length l.others.now

use Rattle.job_queue.proofs.Taken.{taken_are_below}
use Rattle.job_queue.proofs.laws.taken_are_below.Goals as goal

pub returns : goal.returns
returns c = taken_are_below

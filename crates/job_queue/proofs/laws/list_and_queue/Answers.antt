use Rattle.job_queue.proofs.Taken.{list_and_queue}
use Rattle.job_queue.proofs.laws.list_and_queue.Goals as goal

pub returns : goal.returns
returns c = list_and_queue

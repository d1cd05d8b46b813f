use Rattle.algolw_meaning.proofs.Within.{job_keeps, job_within}
use Rattle.algolw_meaning.proofs.laws.result_within.Goals as goal

pub returns : goal.returns
returns c = record { counts = job_keeps; within = job_within }

-- Sums over the jobs of a batch.
use Rattle.std.specs.Prelude.{ℕ, List, sum_by}
use Rattle.batch_core.specs.declared.job.Stage.{Stage}
use Rattle.batch_core.specs.declared.job.Stage.TheVariants.{Undecided, Refused, Outstanding, Ended}
use Rattle.batch_core.specs.declared.job.JobState.{JobState}
use Rattle.batch_core.specs.Core.{held}

-- an amount of a job, once it has ended
abbrev pub released : Stage → ℕ → ℕ
released Undecided amount = 0
released Refused amount = 0
released Outstanding amount = 0
released (Ended charge) amount = amount

-- the reserves of the outstanding jobs
abbrev pub reserved_in : List JobState → ℕ
reserved_in jobs = sum_by (λ job. held job.stage job.claim.reserve) jobs

-- the reserves of the ended ones
abbrev pub settled_in : List JobState → ℕ
settled_in jobs = sum_by (λ job. released job.stage job.claim.reserve) jobs

-- how many are outstanding
abbrev pub outstanding_in : List JobState → ℕ
outstanding_in jobs = sum_by (λ job. held job.stage 1) jobs

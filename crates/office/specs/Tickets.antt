-- The tickets of the accepted jobs.
use Rattle.std.specs.Prelude.{ℕ, suc, List, [], ◌∷◌, ◌++◌, map, sum_by}
use Rattle.job_queue.specs.declared.ticket.Ticket.{Ticket}
use Rattle.batch_core.specs.declared.job.Stage.{Stage}
use Rattle.batch_core.specs.declared.job.Stage.TheVariants.{Undecided, Refused, Outstanding, Ended}
use Rattle.batch_core.specs.declared.job.JobState.{JobState}

-- what a ticket says: a job's number and an amount
pub record Slip : Type 0 where
  pub number : ℕ
  pub amount : ℕ

abbrev pub slip : ℕ → ℕ → Slip
slip number amount = record { number = number; amount = amount }

-- what these tickets say
abbrev pub slips : List Ticket → List Slip
slips tickets = map (λ t. slip t.number t.amount) tickets

-- the amounts together
abbrev pub slips_amount : List Slip → ℕ
slips_amount tickets = sum_by (λ t. t.amount) tickets

-- a ticket of a job, if it is accepted
abbrev pub issued : Stage → Slip → List Slip
issued Undecided ticket = []
issued Refused ticket = []
issued Outstanding ticket = ticket ∷ []
issued (Ended charge) ticket = ticket ∷ []

-- the tickets of the accepted ones among these jobs, in order, where the first of the jobs has this number: each with the reserve as its amount
abbrev pub tickets_from : ℕ → List JobState → List Slip
tickets_from number [] = []
tickets_from number (job ∷ jobs) = issued job.stage (slip number job.claim.reserve) ++ tickets_from (suc number) jobs

abbrev pub tickets : List JobState → List Slip
tickets jobs = tickets_from 1 jobs

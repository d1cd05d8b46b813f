-- The batch's own order: a job is accepted at its place, behind what the accepted jobs before it cost.
use Rattle.std.specs.Prelude.{ℕ, ◌≡◌, Bool, true, false, List, [], ◌∷◌, map, take, zip}
use Rattle.account_book.specs.Places as places
use Rattle.batch_core.specs.declared.job.Claim.{Claim}
use Rattle.batch_core.specs.declared.job.Stage.{Stage}
use Rattle.batch_core.specs.declared.job.Stage.TheVariants.{Undecided, Refused, Outstanding, Ended}
use Rattle.batch_core.specs.declared.job.JobState.{JobState}
use Rattle.batch_core.specs.Core.{Core, job_at}
use Rattle.batch_core.specs.Events.{Admits}

-- what a job may cost: an ended one its charge, an outstanding one what its claim admits; of the others nothing is said
abbrev pub MayCost : Stage → Claim → ℕ → Type 0
MayCost Undecided claim charge = Unit {0}
MayCost Refused claim charge = Unit {0}
MayCost Outstanding claim charge = Admits claim charge
MayCost (Ended settled) claim charge = charge ≡ settled

-- these are charges that the jobs may cost, one for each
abbrev pub AreCharges : List JobState → List ℕ → Type 0
AreCharges [] charges = Unit {0}
AreCharges (job ∷ jobs) [] = ⊥
AreCharges (job ∷ jobs) (charge ∷ charges) = MayCost job.stage job.claim charge × AreCharges jobs charges

-- a job's claim on its account
abbrev pub claimed : JobState → places.Claim
claimed job = record { account = job.claim.account; reserve = job.claim.reserve }

-- the claims of the jobs, each with its charge
abbrev pub priced : List JobState → List ℕ → List (places.Claim × ℕ)
priced jobs charges = zip (map claimed jobs) charges

-- the balance of an account at a place, at these charges
abbrev pub balance_at : Core → List ℕ → ℕ → ℕ → ℕ
balance_at core charges place account = places.place_balance core.openings (take place (priced core.jobs charges)) account

-- whether the job at a place is accepted there, at these charges
abbrev pub accepted_at : Core → List ℕ → ℕ → Bool
accepted_at core charges place = places.is_accepted (balance_at core charges place) (claimed (job_at core place))

-- the decision on a job at this stage is none yet, or this one
abbrev pub Agrees : Stage → Bool → Type 0
Agrees Undecided accepted = Unit {0}
Agrees Refused accepted = accepted ≡ false
Agrees Outstanding accepted = accepted ≡ true
Agrees (Ended charge) accepted = accepted ≡ true

-- Charges that the jobs may cost, when a job arrives and when one comes to another stage.
use Rattle.std.proofs.Common.{◌≡◌, ℕ, ◌<◌, ◌≤◌, List, [], ◌∷◌, ◌++◌, length, get_or, set, map, take, zero, suc, refl, ap, arith}
use Rattle.account_book.specs.Places as places
use Rattle.batch_core.specs.declared.job.Claim.{Claim}
use Rattle.batch_core.specs.declared.job.Stage.{Stage}
use Rattle.batch_core.specs.declared.job.JobState.{JobState}
use Rattle.batch_core.specs.Core.{no_job}
use Rattle.batch_core.specs.Order.{MayCost, AreCharges, claimed, priced}

-- charges of more jobs are charges of the first of them
pub fewer : (jobs more : List JobState) (charges : List ℕ) → AreCharges (jobs ++ more) charges → AreCharges jobs charges
fewer [] more charges are = tt
fewer (job ∷ jobs) more [] are = absurd are
fewer (job ∷ jobs) more (charge ∷ charges) are = (are.0, fewer jobs more charges are.1)

-- the claims before a place don't change when a job arrives
pub priced_before : (place : ℕ) (jobs more : List JobState) (charges : List ℕ) → place ≤ length jobs → take place (priced (jobs ++ more) charges) ≡ take place (priced jobs charges)
priced_before zero jobs more charges within = refl
priced_before (suc place) [] more charges within = absurd (omega arith)
priced_before (suc place) (job ∷ jobs) more [] within = refl
priced_before (suc place) (job ∷ jobs) more (charge ∷ charges) within =
    ap (λ (rest : List (places.Claim × ℕ)). (claimed job, charge) ∷ rest) (priced_before place jobs more charges (omega arith))

-- what jobs claim doesn't change when one comes to another stage
pub claims_stay : {A : Type 0} (f : Claim → A) (jobs : List JobState) (place : ℕ) (stage : Stage)
    → map (λ j. f j.claim) (set jobs place (record { claim = (get_or jobs place no_job).claim; stage = stage })) ≡ map (λ j. f j.claim) jobs
claims_stay f [] place stage = refl
claims_stay f (job ∷ jobs) zero stage = refl
claims_stay {A = A} f (job ∷ jobs) (suc place) stage = ap (λ (rest : List A). f job.claim ∷ rest) (claims_stay f jobs place stage)

-- what a job may cost at its new stage it may cost at its old one
pub costs_stay : (jobs : List JobState) (place : ℕ) (stage : Stage) (charges : List ℕ)
    → ((charge : ℕ) → MayCost stage (get_or jobs place no_job).claim charge → MayCost (get_or jobs place no_job).stage (get_or jobs place no_job).claim charge)
    → AreCharges (set jobs place (record { claim = (get_or jobs place no_job).claim; stage = stage })) charges → AreCharges jobs charges
costs_stay [] place stage charges old are = tt
costs_stay (job ∷ jobs) zero stage [] old are = absurd are
costs_stay (job ∷ jobs) zero stage (charge ∷ charges) old are = (old charge are.0, are.1)
costs_stay (job ∷ jobs) (suc place) stage [] old are = absurd are
costs_stay (job ∷ jobs) (suc place) stage (charge ∷ charges) old are = (are.0, costs_stay jobs place stage charges old are.1)

-- a job's charge among these
pub cost_at : (jobs : List JobState) (place : ℕ) (charges : List ℕ) → place < length jobs → AreCharges jobs charges → MayCost (get_or jobs place no_job).stage (get_or jobs place no_job).claim (get_or charges place 0)
cost_at [] place charges within are = absurd (omega arith)
cost_at (job ∷ jobs) place [] within are = absurd are
cost_at (job ∷ jobs) zero (charge ∷ charges) within are = are.0
cost_at (job ∷ jobs) (suc place) (charge ∷ charges) within are = cost_at jobs place charges (omega arith) are.1

-- A running job, by its number.
use Rattle.std.proofs.Common.{◌≡◌, ℕ, zero, suc, ◌-◌, ◌<◌, ◌≤◌, List, [], ◌∷◌, Option, Some, None, length, get_or, refl, ap, sym, subst, ◌∙◌, arith}
use Rattle.std.specs.Prelude.{option_map, slice_get}
use Rattle.std.proofs.lemmas.Option.{none-some, same_Some}
use Rattle.deck_reader.specs.JobView.{JobView}
use Rattle.account_book.specs.Charges.{charge, reserve}
use Rattle.account_book.specs.declared.charges.Counts.{Counts}
use Rattle.algolw_meaning.specs.Running.{job_result}
use Rattle.algolw_meaning.proofs.Within.{job_within}
use Rattle.batch_core.specs.declared.event.Event.TheVariants.{End}
use Rattle.batch_core.specs.declared.job.Claim.{Claim}
use Rattle.batch_core.specs.declared.job.Stage.{Stage}
use Rattle.batch_core.specs.declared.job.Stage.TheVariants as stage
use Rattle.batch_core.specs.declared.job.JobState.{JobState}
use Rattle.batch_core.specs.Core.{no_job, job_at}
use Rattle.batch_core.specs.Events.{Allowed, IsOutstanding}
use Rattle.batch_core.specs.Laws.{IsAccepted}
use Rattle.office.specs.declared.standing.Standing.TheVariants.{Running}
use Rattle.office.specs.Register.{RegisterView}
use Rattle.office.specs.RegisterStands.{RegisterStands}
use Rattle.office.specs.Standings.{IsRunning, standing_by, standing_of}
use Rattle.office.proofs.Stands.{claim_at}

stage_running : (found : Option Stage) → standing_by found ≡ Running → found ≡ Some stage.Outstanding
stage_running None is = cc
stage_running (Some stage.Undecided) is = cc
stage_running (Some stage.Refused) is = cc
stage_running (Some stage.Outstanding) is = refl
stage_running (Some (stage.Ended charge)) is = cc

stage_there : (jobs : List JobState) (place : ℕ) (at : Stage) → option_map (λ j. j.stage) (slice_get jobs place) ≡ Some at → (place < length jobs) × ((get_or jobs place no_job).stage ≡ at)
stage_there [] place at is = absurd (none-some at is)
stage_there (job ∷ jobs) zero at is = (omega arith, same_Some job.stage at is)
stage_there (job ∷ jobs) (suc place) at is = let rest = stage_there jobs place at is in (omega (arith, rest.0), rest.1)

-- it has a place, at which an outstanding job is
pub record IsAt (r : RegisterView) (number : ℕ) : Type 0 where
  pub some : 0 < number
  pub within : number - 1 < length r.core.jobs
  pub outstanding : (job_at r.core (number - 1)).stage ≡ stage.Outstanding

pub running_at : (r : RegisterView) (number : ℕ) → standing_of r number ≡ Running → IsAt r number
running_at r zero is = cc
running_at r (suc place) is =
    let there = stage_there r.core.jobs place stage.Outstanding (stage_running _ is) in
    let at : suc place - 1 ≡ place = omega arith in
    record {
      some = omega arith;
      within = omega (arith, there.0);
      outstanding = ap (λ (n : ℕ). (job_at r.core n).stage) at ∙ there.1;
    }

-- it has no flaw
pub running_flaw : (r : RegisterView) (number : ℕ) (job : JobView) → RegisterStands r → standing_of r number ≡ Running → slice_get r.jobs (number - 1) ≡ Some job → job.flaw ≡ None
running_flaw r number job stands is there =
    let at = running_at r number is in
    let old = stands.results (number - 1) job there in
    old.flaw (subst IsAccepted (sym at.outstanding) tt)

-- it may end at the charge of what it means
pub may_end : (r : RegisterView) (number amount paid : ℕ) (job : JobView) (counts : Counts) → RegisterStands r → IsRunning r number amount job → counts ≡ (job_result job).counts → paid ≡ charge counts → Allowed r.core (End number paid)
may_end r number amount paid job counts stands is means costs =
    let at = running_at r number is.running in
    let cost : paid ≡ charge (job_result job).counts = costs ∙ ap charge means in
    let within : (job.cards ≤ paid) × (paid ≤ reserve job) = subst (λ (n : ℕ). (job.cards ≤ n) × (n ≤ reserve job)) (sym cost) (job_within job) in
    let claimed : ((job_at r.core (number - 1)).claim.cards ≤ paid) × (paid ≤ (job_at r.core (number - 1)).claim.reserve) =
    subst (λ (c : Claim). (c.cards ≤ paid) × (paid ≤ c.reserve)) (sym (claim_at r (number - 1) job stands is.kept)) within in
    (at.some, (at.within, subst IsOutstanding (sym at.outstanding) tt, claimed))

-- its claim is the amount
pub amount_at : (r : RegisterView) (number amount : ℕ) (job : JobView) → RegisterStands r → IsRunning r number amount job → amount ≡ (job_at r.core (number - 1)).claim.reserve
amount_at r number amount job stands is = sym is.reserved ∙ ap (λ (c : Claim). c.reserve) (sym (claim_at r (number - 1) job stands is.kept))

-- whether the job that is kept is this one, at this amount
pub is_own : (r : RegisterView) (number amount reserved : ℕ) (job mine : JobView) → standing_of r number ≡ Running → slice_get r.jobs (number - 1) ≡ Some mine → mine ≡ job → reserved ≡ reserve mine → reserved ≡ amount → IsRunning r number amount job
is_own r number amount reserved job mine is there same costs equal = record { running = is; kept = there ∙ ap (λ (j : JobView). Some j) same; reserved = ap reserve (sym same) ∙ sym costs ∙ equal }

pub own_job : (r : RegisterView) (number amount : ℕ) (job mine : JobView) → slice_get r.jobs (number - 1) ≡ Some mine → IsRunning r number amount job → mine ≡ job
own_job r number amount job mine there is = same_Some mine job (sym there ∙ is.kept)

pub own_amount : (r : RegisterView) (number amount reserved : ℕ) (job mine : JobView) → slice_get r.jobs (number - 1) ≡ Some mine → reserved ≡ reserve mine → IsRunning r number amount job → reserved ≡ amount
own_amount r number amount reserved job mine there costs is = costs ∙ ap reserve (own_job r number amount job mine there is) ∙ is.reserved

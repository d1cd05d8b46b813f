-- What every reachable state keeps.
use Rattle.std.specs.Prelude.{ℕ, ◌+◌, ◌<◌, ◌≤◌, ◌↔◌, List, length, slice_index}
use Rattle.batch_core.specs.declared.job.Claim.{Claim}
use Rattle.batch_core.specs.declared.job.Stage.{Stage}
use Rattle.batch_core.specs.declared.job.Stage.TheVariants.{Undecided, Refused, Outstanding, Ended}
use Rattle.batch_core.specs.declared.job.JobState.{JobState}
use Rattle.batch_core.specs.Core.{Core, job_at, settled_on, reserved_on, low, high}
use Rattle.batch_core.specs.Events.{Admits, IsOver, IsThere}
use Rattle.batch_core.specs.Order.{AreCharges, Agrees, accepted_at, balance_at}

abbrev pub IsDecided : Stage → Type 0
IsDecided Undecided = ⊥
IsDecided Refused = Unit {0}
IsDecided Outstanding = Unit {0}
IsDecided (Ended charge) = Unit {0}

-- a charge that was settled is one that the claim admits
abbrev pub IsAdmitted : Stage → Claim → Type 0
IsAdmitted Undecided claim = Unit {0}
IsAdmitted Refused claim = Unit {0}
IsAdmitted Outstanding claim = Unit {0}
IsAdmitted (Ended charge) claim = Admits claim charge

pub record KeptOfJob (openings : List ℕ) (job : JobState) : Type 0 where
  pub there : IsThere openings job.claim.account
  pub cards : job.claim.cards ≤ job.claim.reserve
  pub charge : IsAdmitted job.stage job.claim

pub record Kept (core : Core) : Type 0 where
  -- the decided jobs are the first ones
  pub decided : core.decided ≤ length core.jobs
  pub decisions : (place : ℕ) → place < length core.jobs → IsDecided (job_at core place).stage ↔ (place < core.decided)
  -- the printed jobs are the first ones, and each of them is over
  pub printed : core.printed ≤ core.decided
  pub over : (place : ℕ) → place < core.printed → IsOver (job_at core place).stage
  pub claims : (place : ℕ) → place < length core.jobs → KeptOfJob core.openings (job_at core place)
  -- no account pays more than it has, whatever the outstanding jobs will cost
  pub money : (account : ℕ) → settled_on core.jobs account + reserved_on core.jobs account ≤ slice_index core.openings account
  -- each decision is that of the job's place, whatever they will cost
  pub order : (charges : List ℕ) → AreCharges core.jobs charges → (place : ℕ) → place < length core.jobs → Agrees (job_at core place).stage (accepted_at core charges place)
  -- and the balance at the place of the next undecided job is between the bounds
  pub bounds : (charges : List ℕ) → AreCharges core.jobs charges → (account : ℕ) → (low core account ≤ balance_at core charges core.decided account) × (balance_at core charges core.decided account ≤ high core account)

-- each job that has arrived is over
abbrev pub AllOver : Core → Type 0
AllOver core = (place : ℕ) → place < length core.jobs → IsOver (job_at core place).stage

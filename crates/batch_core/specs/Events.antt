-- The events of a batch: when each is allowed, and what it changes.
use Rattle.std.specs.Prelude.{ℕ, ◌≡◌, ◌+◌, ◌-◌, ◌<◌, ◌≤◌, List, [], ◌∷◌, ◌++◌, Option, Some, None, fold, length, slice_set}
use Rattle.batch_core.specs.declared.event.Event.{Event}
use Rattle.batch_core.specs.declared.event.Event.TheVariants.{Arrive, Accept, Refuse, End, Print}
use Rattle.batch_core.specs.declared.job.Claim.{Claim}
use Rattle.batch_core.specs.declared.job.Stage.{Stage}
use Rattle.batch_core.specs.declared.job.Stage.TheVariants.{Undecided, Refused, Outstanding, Ended}
use Rattle.batch_core.specs.declared.job.JobState.{JobState}
use Rattle.batch_core.specs.Core.{Core, arrived, job_at, low, high}

-- an account that is named is one of those that were opened
abbrev pub IsThere : List ℕ → Option ℕ → Type 0
IsThere openings None = Unit {0}
IsThere openings (Some account) = account < length openings

-- whatever the outstanding jobs will cost, the account covers a reserve
abbrev pub AlwaysCovers : Core → Option ℕ → ℕ → Type 0
AlwaysCovers core None reserve = ⊥
AlwaysCovers core (Some account) reserve = reserve ≤ low core account

-- whatever they will cost, it doesn't
abbrev pub NeverCovers : Core → Option ℕ → ℕ → Type 0
NeverCovers core None reserve = Unit {0}
NeverCovers core (Some account) reserve = high core account < reserve

abbrev pub IsOutstanding : Stage → Type 0
IsOutstanding Undecided = ⊥
IsOutstanding Refused = ⊥
IsOutstanding Outstanding = Unit {0}
IsOutstanding (Ended charge) = ⊥

-- refused or ended
abbrev pub IsOver : Stage → Type 0
IsOver Undecided = ⊥
IsOver Refused = Unit {0}
IsOver Outstanding = ⊥
IsOver (Ended charge) = Unit {0}

-- a charge that a claim admits
abbrev pub Admits : Claim → ℕ → Type 0
Admits claim charge = (claim.cards ≤ charge) × (charge ≤ claim.reserve)

-- a claim on an account that is there, of no more cards than its reserve, while job numbers last
abbrev pub MayArrive : Core → Claim → Type 0
MayArrive core claim = IsThere core.openings claim.account × (claim.cards ≤ claim.reserve) × (length core.jobs < 4294967295)

-- the next undecided job, whose account covers its reserve whatever comes
abbrev pub MayAccept : Core → Type 0
MayAccept core = (core.decided < length core.jobs) × AlwaysCovers core (job_at core core.decided).claim.account (job_at core core.decided).claim.reserve

-- the next undecided job, whose account doesn't, or which has none
abbrev pub MayRefuse : Core → Type 0
MayRefuse core = (core.decided < length core.jobs) × NeverCovers core (job_at core core.decided).claim.account (job_at core core.decided).claim.reserve

-- an outstanding job, at a charge that its claim admits
abbrev pub MayEnd : Core → ℕ → ℕ → Type 0
MayEnd core place charge = (place < length core.jobs) × IsOutstanding (job_at core place).stage × Admits (job_at core place).claim charge

-- the next job that isn't printed, which is over
abbrev pub MayPrint : Core → Type 0
MayPrint core = (core.printed < length core.jobs) × IsOver (job_at core core.printed).stage

abbrev pub Allowed : Core → Event → Type 0
Allowed core (Arrive claim) = MayArrive core claim
Allowed core (Accept number) = (number ≡ core.decided + 1) × MayAccept core
Allowed core (Refuse number) = (number ≡ core.decided + 1) × MayRefuse core
Allowed core (End number charge) = (0 < number) × MayEnd core (number - 1) charge
Allowed core (Print number) = (number ≡ core.printed + 1) × MayPrint core

-- every event but an arrival
abbrev pub IsStep : Event → Type 0
IsStep (Arrive claim) = ⊥
IsStep (Accept number) = Unit {0}
IsStep (Refuse number) = Unit {0}
IsStep (End number charge) = Unit {0}
IsStep (Print number) = Unit {0}

-- the jobs once that at a place is at another stage
abbrev pub staged : Core → ℕ → Stage → List JobState
staged core place stage = slice_set core.jobs place (record { claim = (job_at core place).claim; stage = stage })

abbrev pub add : Core → Claim → Core
add core claim = record core { jobs = core.jobs ++ arrived claim ∷ [] }

abbrev pub decide : Core → ℕ → Stage → Core
decide core place stage = record core { jobs = staged core place stage; decided = core.decided + 1 }

abbrev pub finish : Core → ℕ → ℕ → Core
finish core place charge = record core { jobs = staged core place (Ended charge) }

abbrev pub print : Core → Core
print core = record core { printed = core.printed + 1 }

abbrev pub step : Core → Event → Core
step core (Arrive claim) = add core claim
step core (Accept number) = decide core (number - 1) Outstanding
step core (Refuse number) = decide core (number - 1) Refused
step core (End number charge) = finish core (number - 1) charge
step core (Print number) = print core

abbrev pub replay : Core → List Event → Core
replay core events = fold step core events

-- each event is allowed behind those before it
abbrev pub Legal : Core → List Event → Type 0
Legal core [] = Unit {0}
Legal core (event ∷ events) = Allowed core event × Legal (step core event) events

-- every job that has arrived is printed
abbrev pub IsComplete : Core → Type 0
IsComplete core = core.printed ≡ length core.jobs

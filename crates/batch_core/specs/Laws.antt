-- What holds of every legal list of events.
use Rattle.std.specs.Prelude.{ℕ, ◌≡◌, ◌+◌, ◌<◌, ◌↔◌, List, Option, Some, None, Contains, filter_map, length, map, slice_index}
use Rattle.std.specs.List.{range_with_len}
use Rattle.batch_core.specs.declared.event.Event.{Event}
use Rattle.batch_core.specs.declared.event.Event.TheVariants.{Arrive, Accept, Refuse, End, Print}
use Rattle.batch_core.specs.declared.job.Claim.{Claim}
use Rattle.batch_core.specs.declared.job.Stage.{Stage}
use Rattle.batch_core.specs.declared.job.Stage.TheVariants.{Undecided, Refused, Outstanding, Ended}
use Rattle.batch_core.specs.Core.{Core, start, job_at, settled_on, reserved_on, cards_on, balance, low, high}
use Rattle.batch_core.specs.Events.{Allowed, step, replay, Legal, IsComplete}
use Rattle.batch_core.specs.Order.{AreCharges, Agrees, accepted_at}
use Rattle.batch_core.specs.Kept.{Kept}

-- an event that is allowed keeps what every reachable state keeps
abbrev pub EventsKeep : Type 0
EventsKeep = (core : Core) (event : Event) → Kept core → Allowed core event → Kept (step core event)

abbrev pub ReachableStatesKeep : Type 0
ReachableStatesKeep = (openings : List ℕ) (events : List Event) → Legal (start openings) events → Kept (replay (start openings) events)

-- whatever the outstanding jobs will cost, each decision is that of the job's place
abbrev pub LegalListsKeepOrder : Type 0
LegalListsKeepOrder = (openings : List ℕ) (events : List Event) (charges : List ℕ) → Legal (start openings) events
    → let core = replay (start openings) events in AreCharges core.jobs charges → (place : ℕ) → place < length core.jobs → Agrees (job_at core place).stage (accepted_at core charges place)

pub record AddsUp (core : Core) (account : ℕ) : Type 0 where
  pub opening : balance core account + settled_on core.jobs account ≡ slice_index core.openings account
  pub low : low core account + reserved_on core.jobs account ≡ balance core account
  pub high : high core account + cards_on core.jobs account ≡ balance core account

-- the money of each account adds up
abbrev pub MoneyAddsUp : Type 0
MoneyAddsUp = (openings : List ℕ) (events : List Event) (account : ℕ) → Legal (start openings) events → AddsUp (replay (start openings) events) account

-- the claim that arrives by an event
abbrev pub claim_of : Event → Option Claim
claim_of (Arrive claim) = Some claim
claim_of (Accept number) = None
claim_of (Refuse number) = None
claim_of (End number charge) = None
claim_of (Print number) = None

-- the number of the job that is printed by it
abbrev pub printed_by : Event → Option ℕ
printed_by (Arrive claim) = None
printed_by (Accept number) = None
printed_by (Refuse number) = None
printed_by (End number charge) = None
printed_by (Print number) = Some number

-- the jobs are those that have arrived
abbrev pub JobsHaveArrived : Type 0
JobsHaveArrived = (openings : List ℕ) (events : List Event) → map (λ job. job.claim) (replay (start openings) events).jobs ≡ filter_map claim_of events

-- a complete list prints jobs 1 to n in order
abbrev pub CompleteListsPrintInOrder : Type 0
CompleteListsPrintInOrder = (openings : List ℕ) (events : List Event) → Legal (start openings) events
    → let core = replay (start openings) events in IsComplete core → filter_map printed_by events ≡ range_with_len 1 (length core.jobs)

abbrev pub IsAccepted : Stage → Type 0
IsAccepted Undecided = ⊥
IsAccepted Refused = ⊥
IsAccepted Outstanding = Unit {0}
IsAccepted (Ended charge) = Unit {0}

abbrev pub IsRefused : Stage → Type 0
IsRefused Undecided = ⊥
IsRefused Refused = Unit {0}
IsRefused Outstanding = ⊥
IsRefused (Ended charge) = ⊥

-- the job at a place is accepted, refused and charged as a list of events has it
pub record AsListed (events : List Event) (core : Core) (place : ℕ) : Type 0 where
  pub accepted : Contains events (Accept (place + 1)) ↔ IsAccepted (job_at core place).stage
  pub refused : Contains events (Refuse (place + 1)) ↔ IsRefused (job_at core place).stage
  pub ended : (charge : ℕ) → Contains events (End (place + 1) charge) ↔ ((job_at core place).stage ≡ Ended charge)

-- each job of a legal list is as the list has it
abbrev pub StagesAsListed : Type 0
StagesAsListed = (openings : List ℕ) (events : List Event) (place : ℕ) → Legal (start openings) events → AsListed events (replay (start openings) events) place

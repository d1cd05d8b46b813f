-- The register of an office, and what each event changes in it.
use Rattle.std.specs.Prelude.{ℕ, ◌+◌, ◌-◌, List, [], ◌∷◌, ◌++◌, Option, Some, None, slice_set}
use Rattle.deck_reader.specs.JobView.{JobView}
use Rattle.account_book.specs.Charges.{charge}
use Rattle.algolw_meaning.specs.EndedView.{EndedView}
use Rattle.batch_core.specs.declared.event.Event.{Event}
use Rattle.batch_core.specs.declared.event.Event.TheVariants.{Arrive, Accept, Refuse, End, Print}
use Rattle.batch_core.specs.Core.{Core, start, job_at}
use Rattle.batch_core.specs.Events.{step}
use Rattle.batch_core.specs.Claims.{claim_of_job}

-- how far the batch is and by which events; its jobs, and the results of those that have ended, until they are printed; and what is reserved for the outstanding ones
pub record RegisterView : Type 0 where
  pub core : Core
  pub journal : List Event
  pub jobs : List JobView
  pub results : List (Option EndedView)
  pub reserved : ℕ

-- before any event, where these are the balances of the accounts
abbrev pub blank : List ℕ → RegisterView
blank balances = record { core = start balances; journal = []; jobs = []; results = []; reserved = 0 }

-- one more event
abbrev pub noted : RegisterView → Event → RegisterView
noted r event = record r { core = step r.core event; journal = r.journal ++ event ∷ [] }

-- a job arrives
abbrev pub arrived : RegisterView → JobView → RegisterView
arrived r job = record (noted r (Arrive (claim_of_job job))) { jobs = r.jobs ++ job ∷ []; results = r.results ++ None ∷ [] }

-- the reserve of the next undecided job
abbrev pub next_reserve : RegisterView → ℕ
next_reserve r = (job_at r.core r.core.decided).claim.reserve

-- the next undecided job is accepted
abbrev pub accepted : RegisterView → RegisterView
accepted r = record (noted r (Accept (r.core.decided + 1))) { reserved = r.reserved + next_reserve r }

-- or refused
abbrev pub refused : RegisterView → RegisterView
refused r = noted r (Refuse (r.core.decided + 1))

-- the job of this number ends
abbrev pub finished : RegisterView → ℕ → EndedView → RegisterView
finished r number result = record (noted r (End number (charge result.counts))) { results = slice_set r.results (number - 1) (Some result); reserved = r.reserved - (job_at r.core (number - 1)).claim.reserve }

-- the next unprinted job is printed
abbrev pub printed : RegisterView → RegisterView
printed r = record (noted r (Print (r.core.printed + 1))) { results = slice_set r.results r.core.printed None }

-- An office as contracts see it, and what its calls change.
use Rattle.std.specs.Prelude.{ℕ, ◌+◌, ◌⊎◌, Bool, true, false, IsTrue, List, [], ◌∷◌, ◌++◌}
use Rattle.algolw_meaning.specs.EndedView.{EndedView}
use Rattle.batch_core.specs.Kept.{AllOver}
use Rattle.office.specs.Register.{RegisterView, accepted, blank, finished, next_reserve}
use Rattle.office.specs.Tickets.{Slip, slip}

-- the register; the tickets that were put, and how often the queue was found full; what was settled; whether arrivals are closed, and whether the office is stopped
pub record OfficeView : Type 0 where
  pub register : RegisterView
  pub put : List Slip
  pub full : ℕ
  pub settled : ℕ
  pub closed : Bool
  pub stopped : Bool

-- only the register changes
abbrev pub with_register : OfficeView → RegisterView → OfficeView
with_register o register = record o { register = register }

-- the ticket of the next undecided job
abbrev pub next_ticket : RegisterView → Slip
next_ticket r = slip (r.core.decided + 1) (next_reserve r)

-- the next undecided job is accepted, and its ticket put
abbrev pub with_accepted : OfficeView → OfficeView
with_accepted o = record o { register = accepted o.register; put = o.put ++ next_ticket o.register ∷ [] }

-- a put has found the queue full
abbrev pub with_full : OfficeView → OfficeView
with_full o = record o { full = o.full + 1 }

-- a running job ends, and the amount of its ticket is settled
abbrev pub with_ended : OfficeView → ℕ → ℕ → EndedView → OfficeView
with_ended o number amount result = record o { register = finished o.register number result; settled = o.settled + amount }

-- an office before any event, where these are the balances of the accounts, and the queue was found full so often
abbrev pub new_office : List ℕ → ℕ → OfficeView
new_office balances full = record { register = blank balances; put = []; full = full; settled = 0; closed = false; stopped = false }

abbrev pub with_closed : OfficeView → OfficeView
with_closed o = record o { closed = true }

abbrev pub with_stopped : OfficeView → OfficeView
with_stopped o = record o { stopped = true }

-- it is stopped, or arrivals are closed and each job that has arrived is refused or has ended
abbrev pub IsAllOver : OfficeView → Type 0
IsAllOver o = IsTrue o.stopped ⊎ (IsTrue o.closed × AllOver o.register.core)

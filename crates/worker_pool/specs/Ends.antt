-- What workers bring back.
use Rattle.std.specs.Prelude.{ℕ, ◌≡◌, ◌≤◌, List, Option, Some, None, sum_by, slice_index_or}
use Rattle.worker_pool.specs.declared.end.WorkEnd.{WorkEnd}
use Rattle.worker_pool.specs.declared.end.WorkEnd.TheVariants.{Over, NoMemory, Unkept}

-- the amount of the ticket that an end brings
abbrev pub debt_of : WorkEnd → ℕ
debt_of Over = 0
debt_of (NoMemory ticket) = ticket.amount
debt_of (Unkept ticket kept) = ticket.amount

-- and of those of several ends
abbrev pub debts_of : List WorkEnd → ℕ
debts_of ends = sum_by debt_of ends

-- of an end that may be none
abbrev pub debt_in : Option WorkEnd → ℕ
debt_in None = 0
debt_in (Some end) = debt_of end

-- from a place on there was no worker
abbrev pub AreOverFrom : ℕ → List WorkEnd → Type 0
AreOverFrom place ends = (i : ℕ) → place ≤ i → slice_index_or ends i Over ≡ Over

-- What the passes of the queue know, and the rule that each step keeps.
use Rattle.std.specs.Prelude.{◌≡◌, ℕ, suc, ◌+◌, ◌-◌, ◌<◌, ◌≤◌, List, [], ◌∷◌, ◌++◌, length, sum_by, ⊤}
use mathlib.Core.Option.{some}
use lib.ListN.{get_elem?}
use Rattle.job_queue.specs.declared.ticket.Ticket.{Ticket}
use Rattle.job_queue.specs.declared.rule.PassView.{PassView}

-- the amounts of these tickets together
abbrev pub amount_of : List Ticket → ℕ
amount_of tickets = sum_by (λ t. t.amount) tickets

-- each ticket stands in one list as often as in the other: they weigh the same, whatever each ticket weighs
abbrev pub SameTickets : List Ticket → List Ticket → Type 0
SameTickets a b = (weight : Ticket → ℕ) → sum_by weight a ≡ sum_by weight b

-- these are the last ones of the list
abbrev pub IsEndOf : List Ticket → List Ticket → Type 0
IsEndOf put items = (gone : List Ticket) × (put ≡ gone ++ items)

-- the first pass
abbrev pub first : PassView
first = record { parts = 16; rights = 1; put = []; taken = []; heard = []; held = 0; met = 0; full = 0; empty = 0 }

-- a pass that can do nothing any more
abbrev pub spent : PassView
spent = record { parts = 0; rights = 0; put = []; taken = []; heard = []; held = 0; met = 0; full = 0; empty = 0 }

-- a new pass with one part
abbrev pub one_part : PassView
one_part = record { parts = 1; rights = 0; put = []; taken = []; heard = []; held = 0; met = 0; full = 0; empty = 0 }

-- what is about putting in a view, and what is about taking
abbrev pub put_side : PassView → PassView
put_side v = record v { parts = 0; taken = []; heard = []; empty = 0 }

abbrev pub take_side : PassView → PassView
take_side v = record v { rights = 0; put = []; held = 0; met = 0; full = 0 }

abbrev pub less_a_part : PassView → PassView
less_a_part v = record v { parts = v.parts - 1 }

abbrev pub joined : PassView → PassView → PassView
joined v w = record { parts = v.parts + w.parts; rights = v.rights + w.rights; put = v.put ++ w.put; taken = v.taken ++ w.taken; heard = v.heard ++ w.heard; held = v.held + w.held; met = v.met + w.met; full = v.full + w.full; empty = v.empty + w.empty }

-- with the last ticket that was put, right after which the queue held n
abbrev pub with_put : ℕ → PassView → Ticket → PassView
with_put n v x = record v { put = v.put ++ x ∷ []; held = n; met = 0 }

abbrev pub with_taken : List ℕ → PassView → Ticket → PassView
with_taken heard v x = record v { taken = v.taken ++ x ∷ []; heard = heard }

-- a put met n tickets in the queue, which is all that it has room for
abbrev pub found_full : ℕ → PassView → PassView
found_full n v = record v { met = n; full = v.full + 1 }

abbrev pub found_empty : PassView → PassView
found_empty v = record v { empty = v.empty + 1 }

-- the numbers rise, from n on
abbrev pub Rises : ℕ → List Ticket → Type 0
Rises n [] = ⊤
Rises n (x ∷ xs) = (n ≤ x.number) × Rises (suc x.number) xs

-- of what was put, what a pass has to know: with the right to put all of it, and nothing without; without a part of the
-- right to take it has taken nothing. Its findings since the last put are of no more tickets than the queue held right after that
pub record Knows (put : List Ticket) (v : PassView) : Type 0 where
  pub none : v.rights ≡ 0 → v.put ≡ []
  pub all : 0 < v.rights → v.put ≡ put
  pub taken : v.parts ≡ 0 → v.taken ≡ []
  pub unheld : v.rights ≡ 0 → v.held ≡ 0
  pub met : v.met ≤ v.held

-- how many takes came since the n-th put, of takes none of which came after the next one
abbrev pub since : ℕ → List ℕ → ℕ
since n heard = sum_by (λ k. suc k - n) heard

-- the rule, of what the queue holds and of what the passes know: there are tickets that are gone from it, and the gone and
-- the held ones, in this order, are those that were put. No take came after a put that is still to come, and with the takes
-- since the last put the queue would hold what it held right after that
pub record Kept (items : List Ticket) (views : List PassView) : Type 0 where
  pub gone : List Ticket
  pub rises : Rises 0 (gone ++ items)
  pub taken : (weight : Ticket → ℕ) → sum_by (λ v. sum_by weight v.taken) views ≡ sum_by weight gone
  pub parts : sum_by (λ v. v.parts) views ≡ 16
  pub rights : sum_by (λ v. v.rights) views ≡ 1
  pub knows : (pass : ℕ) (v : PassView) → get_elem? views pass ≡ some v → Knows (gone ++ items) v
  pub early : sum_by (λ v. since (suc (length (gone ++ items))) v.heard) views ≡ 0
  pub held : (pass : ℕ) (v : PassView) → get_elem? views pass ≡ some v → 0 < v.rights → v.held ≡ length items + sum_by (λ u. since (length (gone ++ items)) u.heard) views

-- what a pass that has the list of what was put learns: the queue holds an end of it, no longer than right after the last put
abbrev pub HoldsEnd : PassView → List Ticket → Type 0
HoldsEnd v items = 0 < v.rights → IsEndOf v.put items × (length items ≤ v.held)

-- and with all parts as well: what was put is what it has taken and what the queue holds
abbrev pub Accounts : PassView → List Ticket → Type 0
Accounts v items = v.parts ≡ 16 → 0 < v.rights → SameTickets v.put (v.taken ++ items)

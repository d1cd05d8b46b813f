-- What the rule says at each moment.
use Rattle.std.specs.Prelude.{◌≡◌, ℕ, ◌+◌, ◌<◌, List, sum_by, Contains}
use mathlib.Core.Option.{some}
use lib.ListN.{get_elem?}
use Rattle.job_queue.specs.declared.ticket.Ticket.{Ticket}
use Rattle.job_queue.specs.declared.rule.PassView.{PassView}
use Rattle.job_queue.specs.Rule.{Kept, Rises, IsEndOf}

-- of the pass with the right to put, or that the put pass was closed into
pub record HasList (items : List Ticket) (views : List PassView) (v : PassView) : Type 0 where
  pub rises : Rises 0 v.put
  pub held : IsEndOf v.put items
  pub once : (weight : Ticket → ℕ) → sum_by weight v.put ≡ sum_by (λ w. sum_by weight w.taken) views + sum_by weight items

abbrev pub ListAndQueue : Type 0
ListAndQueue = (items : List Ticket) (views : List PassView) (pass : ℕ) (v : PassView) → Kept items views → get_elem? views pass ≡ some v → 0 < v.rights → HasList items views v

abbrev pub TakenAreBelow : Type 0
TakenAreBelow = (items : List Ticket) (views : List PassView) (pass : ℕ) (v : PassView) → Kept items views → get_elem? views pass ≡ some v
    → (taken held : Ticket) → Contains v.taken taken → Contains items held → taken.number < held.number

-- An office as it is stored.
use Rattle.std.specs.Prelude.{◌≤◌, ◌<◌, ◌^◌, List, All}
use Rattle.job_queue.specs.declared.ticket.Ticket.{Ticket}
use Rattle.job_queue.specs.Rule.{amount_of}
use Rattle.office.specs.OfficeView.{OfficeView}
use Rattle.office.specs.StandsFor.{StandsFor}

-- where these are the tickets that were put: their numbers are those of decided jobs, and their amounts fit
pub record Kept (o : OfficeView) (tickets : List Ticket) : Type 0 where
  pub stands : StandsFor o
  pub decided : All (λ t. t.number ≤ o.register.core.decided) tickets
  pub fits : amount_of tickets < 2 ^ 62

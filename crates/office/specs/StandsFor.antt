-- What every office keeps: it stands for a state of the batch.
use Rattle.std.specs.Prelude.{◌≡◌}
use Rattle.office.specs.Sums.{settled_in}
use Rattle.office.specs.Tickets.{tickets}
use Rattle.office.specs.RegisterStands.{RegisterStands}
use Rattle.office.specs.OfficeView.{OfficeView}

pub record StandsFor (o : OfficeView) : Type 0 where
  -- that which its journal replays, whose jobs it keeps
  pub register : RegisterStands o.register
  -- the tickets put are those of the accepted jobs, in order, with their reserves as amounts
  pub put : o.put ≡ tickets o.register.core.jobs
  -- and the reserves of the ended ones are settled
  pub settled : o.settled ≡ settled_in o.register.core.jobs

use Rattle.batch_monitor.proofs.Closed.{closed_are_accounts}
use Rattle.batch_monitor.proofs.laws.closed_are_accounts.Goals as goal

pub returns : goal.returns
returns c = closed_are_accounts

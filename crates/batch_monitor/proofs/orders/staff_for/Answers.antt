use Rattle.batch_monitor.proofs.SaidOrders.{said_in_range}
use Rattle.batch_monitor.proofs.orders.staff_for.Goals as goal

pub new-requires-clause-workers : goal.new-requires-clause-workers
new-requires-clause-workers c = (said_in_range _ _ _ c.requires.said c.in-Run.is).some

pub new-requires-clause-queue : goal.new-requires-clause-queue
new-requires-clause-queue c = (said_in_range _ _ _ c.requires.said c.in-Run.is).room

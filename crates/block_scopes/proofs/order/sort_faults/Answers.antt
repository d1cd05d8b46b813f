use Rattle.block_scopes.proofs.PlaceOrder.{sorted_faults}
use Rattle.block_scopes.proofs.order.sort_faults.Goals as goal

pub returns : goal.returns
returns c = sorted_faults c.args.faults.now.items c.sort.new.self.items c.in_ok-sort.ensures.sorted c.sort.ensures.stable

use Rattle.algolw_typing.proofs.FaultOrder.{put_in_order}
use Rattle.algolw_typing.proofs.laws.faults_in_order.Goals as goal

pub returns : goal.returns
returns c = put_in_order

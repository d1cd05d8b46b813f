use Rattle.batch_core.proofs.Steps.{keeps}
use Rattle.batch_core.proofs.laws.events_keep.Goals as goal

pub returns : goal.returns
returns c = keeps

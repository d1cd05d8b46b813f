use Rattle.batch_core.specs.Core.{start}
use Rattle.batch_core.proofs.Lists.{have_arrived}
use Rattle.batch_core.proofs.laws.jobs_have_arrived.Goals as goal

pub returns : goal.returns
returns c = λ openings events. have_arrived events (start openings)

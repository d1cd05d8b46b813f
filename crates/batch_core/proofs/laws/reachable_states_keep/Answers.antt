use Rattle.batch_core.specs.Core.{start}
use Rattle.batch_core.proofs.Steps.{keeps_start, keeps_all}
use Rattle.batch_core.proofs.laws.reachable_states_keep.Goals as goal

pub returns : goal.returns
returns c = λ openings events legal. keeps_all events (start openings) (keeps_start openings) legal

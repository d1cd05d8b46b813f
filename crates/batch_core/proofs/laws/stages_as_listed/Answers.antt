use Rattle.batch_core.proofs.Listed.{as_listed}
use Rattle.batch_core.proofs.Steps.{keeps_start}
use Rattle.batch_core.proofs.laws.stages_as_listed.Goals as goal

pub returns : goal.returns
returns c = λ openings events place legal. as_listed openings events place (keeps_start openings) legal

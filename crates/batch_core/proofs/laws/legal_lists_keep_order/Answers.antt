use Rattle.batch_core.specs.Core.{start}
use Rattle.batch_core.proofs.Steps.{keeps_start, keeps_all}
use Rattle.batch_core.proofs.laws.legal_lists_keep_order.Goals as goal

pub returns : goal.returns
returns c = λ openings events charges legal are place within. (keeps_all events (start openings) (keeps_start openings) legal).order charges are place within

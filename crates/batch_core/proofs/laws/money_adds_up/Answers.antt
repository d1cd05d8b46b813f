use Rattle.batch_core.specs.Core.{start}
use Rattle.batch_core.proofs.Money.{adds_up}
use Rattle.batch_core.proofs.Steps.{keeps_start, keeps_all}
use Rattle.batch_core.proofs.laws.money_adds_up.Goals as goal

pub returns : goal.returns
returns c = λ openings events account legal. adds_up _ account (keeps_all events (start openings) (keeps_start openings) legal)

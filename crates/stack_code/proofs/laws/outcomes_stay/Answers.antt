use Rattle.stack_code.proofs.Outcomes.{outcomes_stay}
use Rattle.stack_code.proofs.laws.outcomes_stay.Goals as goal

pub returns : goal.returns
returns c = outcomes_stay

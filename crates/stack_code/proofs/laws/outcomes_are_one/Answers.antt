use Rattle.stack_code.proofs.Ending.{outcomes_are_one}
use Rattle.stack_code.proofs.laws.outcomes_are_one.Goals as goal

pub returns : goal.returns
returns c = outcomes_are_one

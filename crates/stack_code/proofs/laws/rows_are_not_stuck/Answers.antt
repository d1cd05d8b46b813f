use Rattle.stack_code.proofs.Ending.{rows_are_not_stuck}
use Rattle.stack_code.proofs.laws.rows_are_not_stuck.Goals as goal

pub returns : goal.returns
returns c = rows_are_not_stuck

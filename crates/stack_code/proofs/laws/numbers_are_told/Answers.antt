use Rattle.stack_code.proofs.Numbers.{numbers_are_told}
use Rattle.stack_code.proofs.laws.numbers_are_told.Goals as goal

pub returns : goal.returns
returns c = numbers_are_told

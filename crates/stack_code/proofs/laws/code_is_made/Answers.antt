use Rattle.stack_code.proofs.Growing.{code_is_made}
use Rattle.stack_code.proofs.laws.code_is_made.Goals as goal

pub returns : goal.returns
returns c = code_is_made

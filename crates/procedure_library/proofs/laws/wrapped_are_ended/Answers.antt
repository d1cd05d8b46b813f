use Rattle.procedure_library.proofs.MovedTokens.{wrapped_are_ended}
use Rattle.procedure_library.proofs.laws.wrapped_are_ended.Goals as goal

pub returns : goal.returns
returns c = wrapped_are_ended

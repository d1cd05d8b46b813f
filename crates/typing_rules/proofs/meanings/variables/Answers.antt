use Rattle.std.proofs.Common.{arith}
use Rattle.std.proofs.lemmas.Grind.{common_steps}
use Rattle.typing_rules.proofs.Rests.{variables_read_each}
use Rattle.typing_rules.proofs.meanings.variables.Goals as goal

pub returns-in_default : goal.returns-in_default
returns-in_default c = grind (arith, common_steps, variables_read_each)

pub returns : goal.returns
returns c = grind (arith, common_steps, variables_read_each)

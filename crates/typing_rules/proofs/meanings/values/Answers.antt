use Rattle.std.proofs.Common.{arith}
use Rattle.std.proofs.lemmas.Grind.{common_steps}
use Rattle.typing_rules.proofs.Rests.{values_read_each}
use Rattle.typing_rules.proofs.meanings.values.Goals as goal

pub returns-in_err-placed_value : goal.returns-in_err-placed_value
returns-in_err-placed_value c = grind (arith, common_steps, values_read_each)

pub returns : goal.returns
returns c = grind (arith, common_steps, values_read_each)

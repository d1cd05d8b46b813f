use Rattle.std.proofs.Common.{arith}
use Rattle.std.proofs.lemmas.Grind.{common_steps}
use Rattle.typing_rules.proofs.EachPart.{all_values_each}
use Rattle.typing_rules.proofs.conditions.values.Goals as goal

pub returns-in_err-value : goal.returns-in_err-value
returns-in_err-value c = grind (arith, common_steps, all_values_each)

pub returns : goal.returns
returns c = grind (arith, common_steps, all_values_each)

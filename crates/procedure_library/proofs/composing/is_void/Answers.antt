use Rattle.procedure_library.proofs.Items.{several}
use Rattle.procedure_library.proofs.composing.is_void.Goals as goal

pub returns-in_default-2 : goal.returns-in_default-2
returns-in_default-2 c = several c.args.items.now c.in_default.len_at_least

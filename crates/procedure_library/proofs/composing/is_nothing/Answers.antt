use Rattle.std.proofs.Common.{sym}
use Rattle.procedure_library.proofs.Trees.{some_thing}
use Rattle.procedure_library.proofs.composing.is_nothing.Goals as goal

pub returns-in_default : goal.returns-in_default
returns-in_default c = sym (some_thing c.args.kind.now c.in_default.not-Empty)

use Rattle.std.proofs.Common.{suc, length}
use Rattle.name_scopes.proofs.Looking.{Going}
use Rattle.declared_names.specs.Standards.{standard_path}
use Rattle.declared_names.proofs.path.KnownPath.nearest.Given as goal

abbrev pub invariant-loop-mark : goal.invariant-loop-mark
invariant-loop-mark l = Going standard_path l.self l.mark (suc (length l.self)) l.initial.each l.each

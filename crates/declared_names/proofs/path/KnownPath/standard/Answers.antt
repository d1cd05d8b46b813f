use Rattle.std.proofs.Common.{sym, subst}
use Rattle.name_scopes.specs.Nearest.{Nearest}
use Rattle.declared_names.specs.Standards.{standard_path}
use Rattle.name_scopes.proofs.Looking.{nothing_kept}
use Rattle.declared_names.proofs.path.KnownPath.standard.Goals as goal

pub invariant_of-result : goal.invariant_of-result
invariant_of-result c = subst (Nearest standard_path standard_path 64 1) (sym c.of-nearest.ensures) (nothing_kept standard_path 64 1)

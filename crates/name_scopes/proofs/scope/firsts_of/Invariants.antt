use Rattle.std.proofs.Common.{take}
use Rattle.name_scopes.specs.Firsts.{Firsts, lent}
use Rattle.name_scopes.proofs.scope.firsts_of.Given as goal

abbrev pub invariant-loop-position : goal.invariant-loop-position
invariant-loop-position l = Firsts (lent (take l.position l.names.items)) l.first

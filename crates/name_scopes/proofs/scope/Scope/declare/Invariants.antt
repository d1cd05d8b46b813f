use Rattle.std.proofs.Common.{take}
use Rattle.name_scopes.specs.Firsts.{lent}
use Rattle.name_scopes.proofs.scope.Scope.declare.Given as goal

abbrev pub ghost-note : goal.ghost-note
ghost-note a = lent (take a.position a.names.now.items)

use Rattle.std.proofs.Common.{◌≡◌, ◌++◌, [], take, drop}
use Rattle.algolw_typing.specs.Scopes as rules
use Rattle.declared_names.proofs.declarations.twice.Given as goal

-- what is found and what is left are all
abbrev pub invariant-loop-position : goal.invariant-loop-position
invariant-loop-position l = l.faults.items ++ rules.twice (take l.position l.scope) (drop l.position l.scope) ≡ l.fn.faults.items ++ rules.twice [] l.scope

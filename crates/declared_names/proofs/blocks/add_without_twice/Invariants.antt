use Rattle.std.proofs.Common.{◌≡◌, ◌++◌, drop}
use Rattle.algolw_typing.specs.Scopes as scopes
use Rattle.declared_names.proofs.blocks.add_without_twice.Given as goal

-- what is added and what is left are all
abbrev pub invariant-loop-fault : goal.invariant-loop-fault
invariant-loop-fault l = l.faults.items ++ scopes.without_twice (drop l.fault-index l.found) ≡ l.fn.faults.items ++ scopes.without_twice l.found

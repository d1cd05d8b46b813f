use Rattle.std.proofs.Common.{◌≡◌, ◌+◌, drop}
use Rattle.algolw_tree.specs.Standards.{spelled}
use Rattle.algolw_typing.specs.Names.{in_scope}
use Rattle.algolw_typing.specs.Scopes.{standard_entries}
use Rattle.declared_names.proofs.standard.known_on_no_card.Given as goal

abbrev pub invariant-loop-position : goal.invariant-loop-position
invariant-loop-position l = in_scope (standard_entries (l.position + 1) (spelled (drop l.position l.names))) l.name ≡ in_scope (standard_entries 1 (spelled l.names)) l.name

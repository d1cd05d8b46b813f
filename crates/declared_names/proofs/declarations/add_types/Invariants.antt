use Rattle.std.proofs.Common.{◌≡◌, ◌++◌, drop, map}
use Rattle.algolw_typing.specs.Scopes as rules
use Rattle.typing_rules.specs.View.{value_type}
use Rattle.declared_names.proofs.declarations.add_types.Given as goal

-- what is added and what is left are all
abbrev pub invariant-loop-name : goal.invariant-loop-name
invariant-loop-name l =
    map value_type l.types.items ++ rules.same_types (drop l._name-index l.names.items) (value_type l.field_type)
    ≡ map value_type l.fn.types.items ++ rules.same_types l.names.items (value_type l.field_type)

use Rattle.std.proofs.Common.{◌≡◌, ◌++◌, drop, map}
use Rattle.algolw_typing.specs.Scopes as rules
use Rattle.typing_rules.specs.MeaningView as view
use Rattle.declared_names.proofs.declarations.add_formal_types.Given as goal

-- what is added and what is left are all
abbrev pub invariant-loop-name : goal.invariant-loop-name
invariant-loop-name l =
    map view.formal_type l.types.items ++ rules.same_formals (drop l._name-index l.formal.names.items) (view.formal_type l.formal_type)
    ≡ map view.formal_type l.fn.types.items ++ rules.same_formals l.formal.names.items (view.formal_type l.formal_type)

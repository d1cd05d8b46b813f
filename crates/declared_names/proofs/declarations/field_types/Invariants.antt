use Rattle.std.proofs.Common.{◌≡◌, ◌++◌, drop, map}
use Rattle.algolw_tree.specs.View.{spec_tree}
use Rattle.algolw_typing.specs.Scopes as rules
use Rattle.typing_rules.specs.View.{value_type}
use Rattle.declared_names.proofs.declarations.field_types.Given as goal

-- what is added and what is left are all
abbrev pub invariant-loop-spec : goal.invariant-loop-spec
invariant-loop-spec l =
    map value_type l.types.items ++ rules.field_types l.path (map (λ g. (spec_tree g.0, g.1.items)) (drop l.spec-index l.class.groups.items))
    ≡ rules.field_types l.path (map (λ g. (spec_tree g.0, g.1.items)) l.class.groups.items)

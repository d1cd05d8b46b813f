use Rattle.std.proofs.Common.{◌≡◌, ◌++◌, drop, map}
use Rattle.algolw_tree.specs.View.{spec_tree}
use Rattle.algolw_typing.specs.Scopes as rules
use Rattle.declared_names.proofs.declarations.declare_fields.Given as goal

-- what is declared and what is left are all
abbrev pub invariant-loop-spec : goal.invariant-loop-spec
invariant-loop-spec l =
    l.scope ++ rules.field_entries l.path l.faults l.class.name.1 (map (λ g. (spec_tree g.0, g.1.items)) (drop l.spec-index l.class.groups.items))
    ≡ l.fn.scope ++ rules.field_entries l.path l.faults l.class.name.1 (map (λ g. (spec_tree g.0, g.1.items)) l.class.groups.items)

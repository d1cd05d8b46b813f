use Rattle.std.proofs.Common.{◌≡◌, ◌++◌, drop, map}
use Rattle.algolw_tree.specs.View.{spec_tree}
use Rattle.algolw_typing.specs.Scopes as rules
use Rattle.declared_names.proofs.declarations.group_faults.Given as goal

-- what is found and what is left are all
abbrev pub invariant-loop-spec : goal.invariant-loop-spec
invariant-loop-spec l =
    l.faults.items ++ rules.group_faults l.path (map (λ g. (spec_tree g.0, g.1.items)) (drop l.spec-index l.class.groups.items))
    ≡ l.fn.faults.items ++ rules.group_faults l.path (map (λ g. (spec_tree g.0, g.1.items)) l.class.groups.items)

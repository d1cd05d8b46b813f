use Rattle.std.proofs.Common.{◌≡◌, ◌++◌, None, drop, map}
use Rattle.algolw_tree.specs.View.{spec_tree}
use Rattle.algolw_typing.specs.Scopes as scopes
use Rattle.declared_names.proofs.blocks.name_fields.Given as goal

-- what is declared and what is left are all
abbrev pub invariant-loop-names : goal.invariant-loop-names
invariant-loop-names l =
    l.scope ++ scopes.entries (scopes.group_names (map (λ g. (spec_tree g.0, g.1.items)) (drop l.names-index l.class.groups.items))) None
    ≡ l.fn.scope ++ scopes.entries (scopes.group_names (map (λ g. (spec_tree g.0, g.1.items)) l.class.groups.items)) None

use Rattle.std.proofs.Common.{◌≡◌, ◌++◌, drop, map}
use Rattle.algolw_tree.specs.View.{formal_tree}
use Rattle.algolw_typing.specs.Scopes as rules
use Rattle.typing_rules.specs.MeaningView as view
use Rattle.declared_names.proofs.declarations.formal_types.Given as goal

-- what is added and what is left are all
abbrev pub invariant-loop-formal : goal.invariant-loop-formal
invariant-loop-formal l =
    map view.formal_type l.types.items ++ rules.formal_types l.path (map formal_tree (drop l.formal-index l.formals))
    ≡ rules.formal_types l.path (map formal_tree l.formals)

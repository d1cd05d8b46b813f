use Rattle.std.proofs.Common.{◌≡◌, ◌++◌, drop, map}
use Rattle.algolw_tree.specs.View.{formal_tree}
use Rattle.algolw_typing.specs.Scopes as rules
use Rattle.declared_names.proofs.declarations.formal_scope.Given as goal

-- what is declared and what is left are all
abbrev pub invariant-loop-formal : goal.invariant-loop-formal
invariant-loop-formal l =
    l.scope ++ rules.formal_scope l.path (map formal_tree (drop l.formal-index l.formals))
    ≡ rules.formal_scope l.path (map formal_tree l.formals)

use Rattle.std.proofs.Common.{◌≡◌, ◌++◌, drop, map}
use Rattle.algolw_tree.specs.View.{formal_tree}
use Rattle.algolw_typing.specs.Typing.{typed_formals}
use Rattle.typed_findings.specs.ClassView.{class_view}
use Rattle.typed_findings.specs.Findings.{finding_view, formals_found}
use Rattle.declared_names.proofs.declarations.log_formals.Given as goal

-- no fault is added and nothing noted, and what is found and what is left are all
abbrev pub invariant-loop-formal : goal.invariant-loop-formal
invariant-loop-formal l =
    (l.log.faults.items ≡ l.fn.log.faults.items)
    × (l.log.names.items ≡ l.fn.log.names.items)
    × (map class_view l.log.classes.items ≡ map class_view l.fn.log.classes.items)
    × (map finding_view l.log.findings.items ++ formals_found (typed_formals l.path (map formal_tree (drop l.formal-index l.formals)))
    ≡ map finding_view l.fn.log.findings.items ++ formals_found (typed_formals l.path (map formal_tree l.formals)))

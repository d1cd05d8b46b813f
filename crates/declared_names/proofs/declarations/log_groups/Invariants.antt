use Rattle.std.proofs.Common.{◌≡◌, ◌++◌, drop, map}
use Rattle.algolw_tree.specs.View.{spec_tree}
use Rattle.algolw_typing.specs.Typing.{typed_groups}
use Rattle.typed_findings.specs.ClassView.{class_view}
use Rattle.typed_findings.specs.Findings.{finding_view, groups_found}
use Rattle.declared_names.proofs.declarations.log_groups.Given as goal

-- no fault is added and nothing noted, and what is found and what is left are all
abbrev pub invariant-loop-spec : goal.invariant-loop-spec
invariant-loop-spec l =
    (l.log.faults.items ≡ l.fn.log.faults.items)
    × (l.log.names.items ≡ l.fn.log.names.items)
    × (map class_view l.log.classes.items ≡ map class_view l.fn.log.classes.items)
    × (map finding_view l.log.findings.items ++ groups_found (typed_groups l.path (map (λ g. (spec_tree g.0, g.1.items)) (drop l.spec-index l.class.groups.items)))
    ≡ map finding_view l.fn.log.findings.items ++ groups_found (typed_groups l.path (map (λ g. (spec_tree g.0, g.1.items)) l.class.groups.items)))

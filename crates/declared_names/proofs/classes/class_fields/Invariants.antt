use Rattle.std.proofs.Common.{◌≡◌, ◌++◌, drop, map}
use Rattle.algolw_tree.specs.View.{spec_tree}
use Rattle.algolw_typing.specs.Naming.{class_fields}
use Rattle.typed_findings.specs.ClassView.{field_view}
use Rattle.declared_names.specs.NamesAlong.{names_along}
use Rattle.declared_names.proofs.classes.class_fields.Given as goal

-- what is added and what is left are all
abbrev pub invariant-loop-spec : goal.invariant-loop-spec
invariant-loop-spec l =
    map field_view l.fields.items ++ class_fields (names_along l.path) (map (λ g. (spec_tree g.0, g.1.items)) (drop l.spec-index l.class.groups.items))
    ≡ class_fields (names_along l.path) (map (λ g. (spec_tree g.0, g.1.items)) l.class.groups.items)

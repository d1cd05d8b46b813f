use Rattle.std.proofs.Common.{◌≡◌, ◌++◌, drop, map}
use Rattle.algolw_typing.specs.Naming.{fields_of}
use Rattle.typing_rules.specs.View.{value_type}
use Rattle.typed_findings.specs.ClassView.{field_view}
use Rattle.declared_names.proofs.classes.add_fields.Given as goal

-- what is added and what is left are all
abbrev pub invariant-loop-name : goal.invariant-loop-name
invariant-loop-name l =
    map field_view l.fields.items ++ fields_of (drop l.name-index l.names.items) (value_type l.field_type)
    ≡ map field_view l.fn.fields.items ++ fields_of l.names.items (value_type l.field_type)

-- The record class that a class in memory is.
use Rattle.std.specs.Prelude.{ℕ, List, map}
use Rattle.typing_rules.specs.View.{value_type}
use Rattle.algolw_typing.specs.Naming.{Class}
use Rattle.algolw_typing.specs.Types as types
use Rattle.typed_findings.specs.declared.classes.Field.{Field}
use Rattle.typed_findings.specs.declared.classes.FoundClass.{FoundClass}

-- a field and its type
abbrev pub field_view : Field → List ℕ × types.ValueType
field_view f = (f.name, value_type f.field_type)

abbrev pub class_view : FoundClass → Class
class_view c = record { place = c.place; name = c.name; fields = map field_view c.fields.now }

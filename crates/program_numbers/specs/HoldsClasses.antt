-- That a table has these record classes.
use Rattle.std.specs.Prelude.{◌≡◌, ℕ, List, map}
use Rattle.value_ops.specs.declared.values.SimpleType.{SimpleType}
use Rattle.record_classes.specs.Classes.{Classes}
use Rattle.algolw_typing.specs.Types.{ValueType}
use Rattle.algolw_typing.specs.Naming.{Class}
use Rattle.algolw_typing.specs.ProgramView.{Numbers, type_view, class_in_table}
use Rattle.program_numbers.specs.Makes.{Sets, Follows, AreSets, numbers_in}
use Rattle.program_numbers.specs.declared.numbering.Numbering.{Numbering}

abbrev pub field_in : Numbers → List ℕ × SimpleType → List ℕ × ValueType
field_in ns f = (f.0, type_view ns f.1)

abbrev pub named_class : Class → List ℕ × List (List ℕ × ValueType)
named_class c = (c.name, c.fields)

-- the classes of the table are these, also when more sets are added
pub record HoldsClasses (n : Numbering) (t : Classes) (classes : List (List ℕ × List (List ℕ × ValueType))) : Type 0 where
  pub sets : AreSets n.classes t.sets
  pub means : (later : Sets) → Follows t.sets later → AreSets n.classes later → map (class_in_table (numbers_in n later)) t.classes ≡ classes

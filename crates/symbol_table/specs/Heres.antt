-- Where code is made.
use Rattle.std.specs.Prelude.{ℕ, ◌+◌, Option, Some, None}
use Rattle.value_ops.specs.declared.values.SimpleType.{SimpleType}
use Rattle.value_ops.specs.declared.values.SimpleType.TheVariants as simple
use Rattle.algolw_tree.specs.declared.programs.Gives.{Gives}
use Rattle.algolw_tree.specs.declared.programs.Gives.TheVariants as gives
use Rattle.symbol_table.specs.declared.here.Here.{Here}

abbrev pub in_statement : Here → Option ℕ → Here
in_statement here None = here
in_statement here (Some statement) = record here { statement = statement }

abbrev pub with_entries : Here → ℕ → Here
with_entries here more = record here { entries = here.entries + more }

-- in a text in this one, which begins with its mark and so many names
abbrev pub inner_text : Here → ℕ → Here
inner_text here named = record { statement = here.statement; level = here.level + 1; entries = named + 1 }

-- the type of what is given, where it is a value
abbrev pub type_given : Option Gives → Option SimpleType
type_given (Some (gives.Simple t)) = Some t
type_given g = None

-- the type of a variable
abbrev pub variable_type : Option Gives → SimpleType
variable_type (Some (gives.Simple t)) = t
variable_type g = simple.Integer

-- What is known of names by their numbers: what they stand for, and the fields of the classes and the formals of the procedures among them.
use Rattle.std.specs.Prelude.{ℕ, ◌+◌, ◌-◌, suc, max, List, [], ◌∷◌, take, drop, length, replicate, Option, Some, None, slice_index_or, slice_set, slice_get}
use Rattle.std.specs.Option.{option_map}
use Rattle.value_ops.specs.declared.values.ClassId.{ClassId}
use Rattle.value_ops.specs.declared.values.SimpleType.{SimpleType}
use Rattle.stack_code.specs.declared.heads.Formal.{Formal}
use Rattle.stack_code.specs.declared.heads.FormalType.{FormalType}
use Rattle.stack_code.specs.declared.heads.FormalType.TheVariants as formal
use Rattle.symbol_table.specs.declared.standings.Class.{Class}
use Rattle.symbol_table.specs.declared.standings.Entry.{Entry}
use Rattle.symbol_table.specs.declared.standings.Procedure.{Procedure}
use Rattle.symbol_table.specs.declared.standings.Standing.{Standing}
use Rattle.symbol_table.specs.declared.standings.Standing.TheVariants as standing
use Rattle.symbol_table.specs.declared.symbols.SymbolMark.{SymbolMark}
use Rattle.symbol_table.specs.Standings.{Names, every_name, standard_count}

-- what is declared, the newest name first; how many names there are; the types of the fields of the classes and the formals of the procedures
-- that are declared, in order; and the class that each name is
pub record SymbolsView : Type 0 where
  pub names : Names
  pub count : ℕ
  pub fields : List SimpleType
  pub formals : List Formal
  pub classes : List (Option ClassId)

-- the classes of names from a class on
abbrev pub classes_set : List (Option ClassId) → ℕ → List ℕ → List (Option ClassId)
classes_set classes k [] = classes
classes_set classes k (name ∷ names) = classes_set (slice_set classes name (Some (record { 0 = k }))) (suc k) names

abbrev pub class_numbers : ℕ → List ℕ → List (Option ClassId)
class_numbers count names = classes_set (replicate count None) 0 names

-- nothing is declared but what every deck has
abbrev pub only_standard : ℕ → List ℕ → SymbolsView
only_standard count class_names = record { names = every_name; count = max standard_count count; fields = []; formals = []; classes = class_numbers count class_names }

abbrev pub class_at : List (Option ClassId) → ℕ → Option ClassId
class_at classes name = slice_index_or classes name None

-- the types of the fields of a class, and the formals of a procedure
abbrev pub types_of : SymbolsView → Class → List SimpleType
types_of s c = take c.count (drop c.fields s.fields)

abbrev pub formals_of : SymbolsView → Procedure → List Formal
formals_of s p = take p.count (drop p.formals s.formals)

abbrev pub field_at : SymbolsView → Class → ℕ → Option SimpleType
field_at s c n = slice_get (types_of s c) n

abbrev pub formal_at : SymbolsView → Procedure → ℕ → Option FormalType
formal_at s p n = option_map (λ f. f.is) (slice_get (formals_of s p) n)

-- ---- declaring

abbrev pub with_name : SymbolsView → ℕ → Standing → SymbolsView
with_name s name x = record s { names = (name, x) ∷ s.names }

abbrev pub control_standing : Entry → Standing
control_standing e = standing.Control e

-- what a formal stands for in its body
abbrev pub formal_standing : FormalType → Entry → Standing
formal_standing (formal.ByName t) e = standing.NameFormal t e
formal_standing (formal.Value t) e = standing.Variable t e
formal_standing (formal.Result t) e = standing.Variable t e
formal_standing (formal.ValueResult t) e = standing.Variable t e
formal_standing (formal.Array t n) e = standing.Array t e
formal_standing (formal.Procedure t) e = standing.ProcedureFormal t e

-- formals from a position on, in a text that is so deep
abbrev pub formal_names : (level position : ℕ) → List Formal → Names → Names
formal_names level position [] more = more
formal_names level position (f ∷ formals) more = (f.name, formal_standing f.is (record { level = level; position = position })) ∷ formal_names level (position + 1) formals more

abbrev pub with_formals : SymbolsView → ℕ → List Formal → SymbolsView
with_formals s level formals = record s { names = formal_names level 1 formals s.names }

-- ---- taking back

abbrev pub mark_of : SymbolsView → SymbolMark
mark_of s = record { names = length s.names; fields = length s.fields; formals = length s.formals }

abbrev pub taken_back : SymbolsView → SymbolMark → SymbolsView
taken_back s m = record s { names = drop (length s.names - m.names) s.names; fields = take m.fields s.fields; formals = take m.formals s.formals }

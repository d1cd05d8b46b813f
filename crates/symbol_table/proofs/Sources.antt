-- What stands for a name, as instructions have it.
use Rattle.std.proofs.Common.{◌≡◌, ℕ, List, Option, Some, None, refl}
use Rattle.std.specs.Option.{option_map}
use Rattle.value_ops.specs.declared.places.Place.{Place}
use Rattle.algolw_tree.specs.declared.standard.Standard.TheVariants as standard
use Rattle.program_meaning.specs.Translating as translating
use Rattle.phrase_code.specs.Coding.{reading_of_name, source_of}
use Rattle.stack_code.specs.Instr as instr
use Rattle.stack_code.specs.CodeView.{source_view}
use Rattle.stack_code.specs.Linking.{linked_source}
use Rattle.stack_code.specs.declared.instructions.Source.{Source}
use Rattle.symbol_table.specs.declared.here.Here.{Here}
use Rattle.symbol_table.specs.declared.standings.Standing.{Standing}
use Rattle.symbol_table.specs.declared.standings.Standing.TheVariants as standing
use Rattle.symbol_table.specs.Contexts.{Scene, coding_context, declared_for, stand_for}
use Rattle.symbol_table.specs.Standings.{is_variable, read_source, source_from}

-- what stands for it
pub source_same : (s : Scene) (ts : List ℕ) (here : Here) (p : Place) (x : Standing) → option_map (source_of (coding_context s ts here)) (stand_for s ts p x) ≡ option_map (λ (source : Source). source_view (linked_source ts source)) (source_from here x)
source_same s ts here p standing.Unknown = refl
source_same s ts here p (standing.Standard n) = refl
source_same s ts here p (standing.Variable t e) = refl
source_same s ts here p (standing.NameFormal t e) = refl
source_same s ts here p (standing.Control e) = refl
source_same s ts here p (standing.Array t e) = refl
source_same s ts here p (standing.Procedure y) = refl
source_same s ts here p (standing.ProcedureFormal t e) = refl
source_same s ts here p (standing.Class c) = refl
source_same s ts here p (standing.Field c n t) = refl
source_same s ts here p (standing.Label e target) = refl

abbrev pub read_as : List ℕ → Option Source → instr.Reading
read_as ts None = instr.as_nothing
read_as ts (Some source) = instr.as_name (source_view (linked_source ts source))

-- how it is read
pub reading_same : (s : Scene) (ts : List ℕ) (here : Here) (p : Place) (x : Standing) → reading_of_name (coding_context s ts here) (stand_for s ts p x) ≡ read_as ts (read_source here x)
reading_same s ts here p standing.Unknown = refl
reading_same s ts here p (standing.Standard n) = refl
reading_same s ts here p (standing.Variable t e) = refl
reading_same s ts here p (standing.NameFormal t e) = refl
reading_same s ts here p (standing.Control e) = refl
reading_same s ts here p (standing.Array t e) = refl
reading_same s ts here p (standing.Procedure y) = refl
reading_same s ts here p (standing.ProcedureFormal t e) = refl
reading_same s ts here p (standing.Class c) = refl
reading_same s ts here p (standing.Field c n t) = refl
reading_same s ts here p (standing.Label e target) = refl

-- whether it is a variable
pub variable_same : (s : Scene) (x : Standing) → translating.is_variable (declared_for s x) ≡ is_variable x
variable_same s standing.Unknown = refl
variable_same s (standing.Standard (standard.Variable width)) = refl
variable_same s (standing.Standard n) = refl
variable_same s (standing.Variable t e) = refl
variable_same s (standing.NameFormal t e) = refl
variable_same s (standing.Control e) = refl
variable_same s (standing.Array t e) = refl
variable_same s (standing.Procedure y) = refl
variable_same s (standing.ProcedureFormal t e) = refl
variable_same s (standing.Class c) = refl
variable_same s (standing.Field c n t) = refl
variable_same s (standing.Label e target) = refl

-- Types of what is given, as the definitions have them.
use Rattle.std.proofs.Common.{◌≡◌, Option, Some, None, refl, ap}
use Rattle.std.specs.Option.{option_map}
use Rattle.value_ops.specs.declared.values.SimpleType.TheVariants as simple
use Rattle.algolw_tree.specs.declared.programs.Gives.{Gives}
use Rattle.algolw_tree.specs.declared.programs.Gives.TheVariants as gives
use Rattle.algolw_typing.specs.Known.{KnowsGives}
use Rattle.algolw_typing.specs.ProgramView.{gives_view}
use Rattle.program_meaning.specs.Translating as translating
use Rattle.stack_code.specs.CodeView.{KindFits, KindsFit, kind_view, kinds_view}
use Rattle.symbol_table.specs.Contexts.{Scene, SceneFits, numbers_in}
use Rattle.symbol_table.specs.Heres.{type_given, variable_type}
use Rattle.symbol_table.proofs.Knowing.{kind_known}
use Rattle.symbol_table.proofs.Viewing.{kind_same}
use Rattle.stack_codegen.specs.Operations.{is_logical}

pub type_given_same : (s : Scene) (g : Option Gives) → translating.type_given (option_map (gives_view (numbers_in s)) g) ≡ kinds_view s.given (type_given g)
type_given_same s None = refl
type_given_same s (Some gives.Statement) = refl
type_given_same s (Some (gives.Simple t)) = ap Some (kind_same s t)

pub variable_type_same : (s : Scene) (g : Option Gives) → translating.value_type (option_map (gives_view (numbers_in s)) g) ≡ kind_view s.given (variable_type g)
variable_type_same s None = refl
variable_type_same s (Some gives.Statement) = refl
variable_type_same s (Some (gives.Simple t)) = kind_same s t

pub is_logical_same : (s : Scene) (g : Option Gives) → translating.is_logical_given (option_map (gives_view (numbers_in s)) g) ≡ is_logical g
is_logical_same s None = refl
is_logical_same s (Some gives.Statement) = refl
is_logical_same s (Some (gives.Simple simple.Integer)) = refl
is_logical_same s (Some (gives.Simple simple.Logical)) = refl
is_logical_same s (Some (gives.Simple simple.Bits)) = refl
is_logical_same s (Some (gives.Simple (simple.Str n))) = refl
is_logical_same s (Some (gives.Simple (simple.Reference set))) = refl

pub given_fits : (s : Scene) → SceneFits s → (g : Option Gives) → KnowsGives s.given.class_places (option_map (gives_view (numbers_in s)) g) → KindsFit s.given (type_given g)
given_fits s fits None k = tt
given_fits s fits (Some gives.Statement) k = tt
given_fits s fits (Some (gives.Simple t)) k = kind_known s fits t k

pub variable_fits : (s : Scene) → SceneFits s → (g : Option Gives) → KnowsGives s.given.class_places (option_map (gives_view (numbers_in s)) g) → KindFits s.given (variable_type g)
variable_fits s fits None k = tt
variable_fits s fits (Some gives.Statement) k = tt
variable_fits s fits (Some (gives.Simple t)) k = kind_known s fits t k

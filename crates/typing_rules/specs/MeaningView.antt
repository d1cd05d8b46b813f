-- What names mean and how actuals are read, as the rules see them; and what a condition leaves of a row.
use Rattle.std.specs.Prelude.{Result, Ok, Err, List, [], ◌∷◌, Bool, false, map}
use Rattle.value_ops.specs.declared.places.Place.{Place}
use Rattle.std.specs.Option.{option_map}
use Rattle.algolw_typing.specs.Types as types
use Rattle.algolw_typing.specs.Meanings as meanings
use Rattle.algolw_typing.specs.Actuals as actuals
use Rattle.algolw_typing.specs.Verdicts as verdicts
use Rattle.typing_rules.specs.declared.verdicts.NoType.{NoType}
use Rattle.typing_rules.specs.declared.meanings.FormalType.{FormalType}
use Rattle.typing_rules.specs.declared.meanings.FormalType.TheVariants as formal
use Rattle.typing_rules.specs.declared.meanings.Meaning.{Meaning}
use Rattle.typing_rules.specs.declared.meanings.Meaning.TheVariants as name
use Rattle.typing_rules.specs.declared.meanings.Part.{Part}
use Rattle.typing_rules.specs.declared.meanings.Part.TheVariants as behind
use Rattle.typing_rules.specs.declared.actuals.Reading.{Reading}
use Rattle.typing_rules.specs.declared.actuals.Reading.TheVariants as read
use Rattle.typing_rules.specs.declared.actuals.Wanted.{Wanted}
use Rattle.typing_rules.specs.declared.actuals.Wanted.TheVariants as wants
use Rattle.typing_rules.specs.View.{value_type, verdict}

abbrev pub formal_type : FormalType → meanings.FormalType
formal_type (formal.ByName t) = meanings.by_name (value_type t)
formal_type (formal.ByValue t) = meanings.by_value (value_type t)
formal_type (formal.ByResult t) = meanings.by_result (value_type t)
formal_type (formal.ByValueResult t) = meanings.by_value_result (value_type t)
formal_type (formal.Array t n) = meanings.for_array (value_type t) n
formal_type (formal.Procedure result_type) = meanings.for_procedure (option_map value_type result_type)

abbrev pub meaning : Meaning → meanings.Meaning
meaning (name.Variable t) = meanings.a_variable (value_type t)
meaning (name.Array t n) = meanings.an_array (value_type t) n
meaning (name.Procedure result_type formals) = meanings.a_procedure (option_map value_type result_type) (map formal_type formals.now)
meaning (name.ProcedureFormal result_type) = meanings.a_procedure_formal (option_map value_type result_type)
meaning (name.Class fields) = meanings.a_class (map value_type fields.now)
meaning (name.Field class t) = meanings.a_field class (value_type t)
meaning name.Label = meanings.a_label
meaning name.Control = meanings.a_control
meaning (name.Standard s) = meanings.a_standard s

abbrev pub part : Part → meanings.Part
part behind.Star = meanings.a_star
part (behind.Statement v) = meanings.a_phrase v types.Statement
part behind.Setting = meanings.a_setting
part (behind.Value v t) = meanings.a_phrase v (types.Simple (value_type t))
part (behind.Array t n) = meanings.as_array (value_type t) n
part (behind.Procedure result_type) = meanings.as_procedure (option_map value_type result_type)
part behind.WithFormals = meanings.with_formals
part behind.NotRead = meanings.not_read
part behind.Typeless = meanings.typeless

abbrev pub reading : Reading → actuals.Reading
reading read.AsPhrases = actuals.as_phrases
reading (read.ForFormals formals) = actuals.for_formals (map formal_type formals.now)
reading read.AtRunTime = actuals.at_run_time

abbrev pub wanted : Wanted → actuals.Wanted
wanted wants.Phrase = actuals.phrase_wanted
wanted (wants.Formal f) = actuals.formal_wanted (formal_type f)
wanted wants.Nothing = actuals.none_wanted
wanted wants.Anything = actuals.any_wanted

-- a condition is tested, and the row goes on with what it gives; or the phrase has no type
abbrev pub after : {A : Type 0} → Result A NoType → (A → verdicts.Verdict) → verdicts.Verdict
after (Ok x) row = row x
after (Err e) row = verdict (Err e)

-- the types of those parts that are phrases with values
abbrev pub values_of : List meanings.Part → List types.ValueType
values_of [] = []
values_of (meanings.a_phrase v (types.Simple t) ∷ parts) = t ∷ values_of parts
values_of (part ∷ parts) = values_of parts

-- 35 a part that is a statement and no setting
abbrev pub placed_value : Place → meanings.Part → verdicts.Verdict → verdicts.Verdict
placed_value p meanings.a_setting row = row
placed_value p part row = meanings.of_phrase part (λ g. verdicts.value p g (λ t. row))

-- whether a type is a reference whose classes include this one
abbrev pub refers_to : types.ValueType → Place → Bool
refers_to (types.Reference set) class = types.has set class
refers_to t class = false

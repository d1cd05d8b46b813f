-- Table A: an actual against the formal that it stands for; and a name with a list that is no substring list.
use Rattle.std.specs.Prelude.{ℕ, suc, List, [], ◌∷◌, Option, Some, None, Bool, true, false, ◌&&◌, nat_eq, length}
use Rattle.value_ops.specs.declared.places.Place.{Place}
use Rattle.algolw_tree.specs.declared.standard.Standard.TheVariants as standard
use Rattle.algolw_typing.specs.Types.{ValueType, Gives, Statement, fits, is_same}
use Rattle.algolw_typing.specs.Verdicts.{Verdict, Good, Fault, Silent, unless, value, int, statement, type_of}
use Rattle.algolw_typing.specs.Meanings.{Meaning, a_variable, an_array, a_procedure, a_procedure_formal, a_class, a_field, a_label, a_control, a_standard, FormalType, by_name, by_value, by_result, by_value_result, for_array, for_procedure, Part, a_star, a_phrase, as_array, as_procedure, with_formals, not_read, typeless, gives_of, all_read, of_phrase, no_star, right_number, array_row, class_row, field_row, standard_row}

-- T VALUE, T by name: 40 an array, or a procedure with formals; 35 a statement; 37 doesn't fit T
abbrev pub value_actual : Place → ValueType → Part → Verdict → Verdict
value_actual p t (a_phrase v g) then_ = value p g (λ u. unless (fits u t) 37 p then_)
value_actual p t typeless then_ = Silent
value_actual p t part then_ = Fault 40 p

-- T RESULT: 40; 35; 38 no variable; 37 T doesn't fit the actual
abbrev pub result_actual : Place → ValueType → Part → Verdict → Verdict
result_actual p t (a_phrase v g) then_ = value p g (λ u. unless v 38 p (unless (fits t u) 37 p then_))
result_actual p t typeless then_ = Silent
result_actual p t part then_ = Fault 40 p

-- T VALUE RESULT: 40; 35; 38; 37 unless each fits the other
abbrev pub value_result_actual : Place → ValueType → Part → Verdict → Verdict
value_result_actual p t (a_phrase v g) then_ = value p g (λ u. unless v 38 p (unless (fits u t && fits t u) 37 p then_))
value_result_actual p t typeless then_ = Silent
value_result_actual p t part then_ = Fault 40 p

-- T ARRAY of d dimensions: 40 no array; 39 other number of dimensions; 37 element type not the same
abbrev pub array_actual : Place → ValueType → ℕ → Part → Verdict → Verdict
array_actual p t d (as_array u n) then_ = unless (nat_eq d n) 39 p (unless (is_same u t) 37 p then_)
array_actual p t d typeless then_ = Silent
array_actual p t d part then_ = Fault 40 p

-- PROCEDURE: 40 an array, or a procedure with type; 36 a value
abbrev pub statement_actual : Place → Part → Verdict → Verdict
statement_actual p (a_phrase v g) then_ = statement p g then_
statement_actual p (as_procedure None) then_ = then_
statement_actual p typeless then_ = Silent
statement_actual p part then_ = Fault 40 p

-- T PROCEDURE: 40 an array, or a procedure without type; 35 a statement; 37 a procedure whose type isn't the same as T, or a phrase that doesn't fit T
abbrev pub function_actual : Place → ValueType → Part → Verdict → Verdict
function_actual p t (a_phrase v g) then_ = value p g (λ u. unless (fits u t) 37 p then_)
function_actual p t (as_procedure (Some u)) then_ = unless (is_same u t) 37 p then_
function_actual p t typeless then_ = Silent
function_actual p t part then_ = Fault 40 p

abbrev pub procedure_actual : Place → Option ValueType → Part → Verdict → Verdict
procedure_actual p None part then_ = statement_actual p part then_
procedure_actual p (Some t) part then_ = function_actual p t part then_

abbrev pub table_a : Place → FormalType → Part → Verdict → Verdict
table_a p (by_name t) part then_ = value_actual p t part then_
table_a p (by_value t) part then_ = value_actual p t part then_
table_a p (by_result t) part then_ = result_actual p t part then_
table_a p (by_value_result t) part then_ = value_result_actual p t part then_
table_a p (for_array t d) part then_ = array_actual p t d part then_
table_a p (for_procedure result) part then_ = procedure_actual p result part then_

-- table A for each actual, one after the other
abbrev pub actuals_fit : Place → List FormalType → List Part → Verdict → Verdict
actuals_fit p (f ∷ formals) (part ∷ parts) then_ = table_a p f part (actuals_fit p formals parts then_)
actuals_fit p formals parts then_ = then_

-- procedure with list, at the name: 40 a `*` that is itself an actual; 39 the number; table A for each actual
abbrev pub call_row : Place → Option ValueType → List FormalType → List Part → Verdict
call_row p result formals parts = no_star p parts (right_number p (length formals) parts (actuals_fit p formals parts (Good (gives_of result))))

-- procedure formal with list, at the name: 40 a `*` that is itself an actual; else its type
abbrev pub formal_call_row : Place → Option ValueType → List Part → Verdict
formal_call_row p result parts = no_star p parts (Good (gives_of result))

-- a name with a list that is no substring list, at the name; label, or simple name with such a list: 41
abbrev pub list_row : Place → Meaning → (d : Place) → List Part → Verdict
list_row p (a_variable t) d parts = Fault 41 p
list_row p (an_array t n) d parts = array_row p t n parts
list_row p (a_procedure result formals) d parts = call_row p result formals parts
list_row p (a_procedure_formal result) d parts = formal_call_row p result parts
list_row p (a_class fields) d parts = class_row p fields d parts
list_row p (a_field c t) d parts = field_row p c t parts
list_row p a_label d parts = Fault 41 p
list_row p a_control d parts = Fault 41 p
list_row p (a_standard s) d parts = standard_row p s parts

-- ---- how an actual is read

-- how the parts of a list are read: as phrases; or as actuals of a procedure, or of a procedure formal, which compares when it is called
pub data Reading : Type 0 where
  as_phrases : Reading
  for_formals : List FormalType → Reading
  at_run_time : Reading

-- what is wanted of the next part
pub data Wanted : Type 0 where
  phrase_wanted : Wanted
  formal_wanted : FormalType → Wanted
  -- an actual more than there are formals
  none_wanted : Wanted
  any_wanted : Wanted

abbrev pub wanted : Reading → Wanted
wanted as_phrases = phrase_wanted
wanted (for_formals []) = none_wanted
wanted (for_formals (f ∷ formals)) = formal_wanted f
wanted at_run_time = any_wanted

abbrev pub behind : Reading → Reading
behind (for_formals (f ∷ formals)) = for_formals formals
behind reading = reading

abbrev pub wants_procedure : FormalType → Bool
wants_procedure (for_procedure result) = true
wants_procedure f = false

-- a procedure's name alone: read as a procedure where the formal is a PROCEDURE, and as a phrase otherwise, which one with formals isn't
abbrev pub procedure_name : Bool → Option ValueType → List FormalType → Part
procedure_name true result formals = as_procedure result
procedure_name false result [] = a_phrase false (gives_of result)
procedure_name false result (f ∷ formals) = with_formals

-- A variable is a name of a simple variable, a standard one too, of a VALUE, RESULT, VALUE RESULT or name formal, an array with all its subscripts, a field
-- designator, or a substring of one of these: so the name of a phrase that has a type tells it.
abbrev pub is_variable_name : Meaning → Bool
is_variable_name (a_variable t) = true
is_variable_name (an_array t n) = true
is_variable_name (a_field c t) = true
is_variable_name (a_standard (standard.Variable width)) = true
is_variable_name meaning = false

abbrev pub phrase_part : Bool → Option Gives → Part
phrase_part v (Some g) = a_phrase v g
phrase_part v None = typeless

-- a name alone as an actual that stands for a formal; its row as a phrase gives the verdict
abbrev pub formal_name : FormalType → Meaning → Verdict → Part
formal_name f (an_array t n) v = as_array t n
formal_name f (a_procedure result formals) v = procedure_name (wants_procedure f) result formals
formal_name f (a_procedure_formal result) v = procedure_name (wants_procedure f) result []
formal_name f meaning v = phrase_part (is_variable_name meaning) (type_of v)

-- a name alone as an actual without a formal: an array's or a procedure's isn't read
abbrev pub extra_name : Meaning → Verdict → Part
extra_name (an_array t n) v = not_read
extra_name (a_procedure result formals) v = not_read
extra_name meaning v = phrase_part (is_variable_name meaning) (type_of v)

-- a name alone as an actual of a procedure formal: an array's, a procedure's or a procedure formal's isn't read by now
abbrev pub later_name : Meaning → Verdict → Part
later_name (an_array t n) v = not_read
later_name (a_procedure result formals) v = not_read
later_name (a_procedure_formal result) v = not_read
later_name meaning v = phrase_part (is_variable_name meaning) (type_of v)

abbrev pub name_read : Wanted → Meaning → Verdict → Part
name_read phrase_wanted meaning v = phrase_part (is_variable_name meaning) (type_of v)
name_read (formal_wanted f) meaning v = formal_name f meaning v
name_read none_wanted meaning v = extra_name meaning v
name_read any_wanted meaning v = later_name meaning v

-- ---- subarrays

abbrev pub has_star : List Part → Bool
has_star [] = false
has_star (a_star ∷ parts) = true
has_star (part ∷ parts) = has_star parts

abbrev pub stars : List Part → ℕ
stars [] = 0
stars (a_star ∷ parts) = suc (stars parts)
stars (part ∷ parts) = stars parts

-- an array with a list that holds a `*` is read as an array where it is an actual
abbrev pub is_subarray : Wanted → List Part → Bool
is_subarray phrase_wanted parts = false
is_subarray w parts = has_star parts

-- Int of each that is no `*`
abbrev pub subscripts : Place → List Part → Verdict → Verdict
subscripts p [] then_ = then_
subscripts p (a_star ∷ parts) then_ = subscripts p parts then_
subscripts p (part ∷ parts) then_ = of_phrase part (λ g. int p g (subscripts p parts then_))

-- a subarray, at the name: 39 unless it has as many subscripts as dimensions; Int of each that is no `*`
abbrev pub subarray_row : Place → ℕ → List Part → Verdict
subarray_row p n parts = all_read parts (right_number p n parts (subscripts p parts (Good Statement)))

-- its dimensions are its stars
abbrev pub subarray_part : Wanted → ValueType → List Part → Verdict → Part
subarray_part any_wanted t parts (Good g) = not_read
subarray_part w t parts (Good g) = as_array t (stars parts)
subarray_part w t parts v = typeless

-- A row of the table has its fault at the place that it is given.
use Rattle.std.proofs.Common.{ℕ, List, [], ◌∷◌, Option, Some, None, Bool, true, false, ◌&&◌, not}
use Rattle.value_ops.specs.declared.places.Place.{Place}
use Rattle.algolw_tree.specs.declared.phrases.Op.{Op}
use Rattle.algolw_tree.specs.declared.phrases.Op.TheVariants.{Or, And, Plus, Minus, Times, Slash, Div, Rem, Shl, Shr, Power}
use Rattle.algolw_tree.specs.declared.phrases.RelOp.{RelOp}
use Rattle.algolw_tree.specs.declared.standard.Standard.{Standard}
use Rattle.algolw_tree.specs.declared.standard.Standard.TheVariants.{Function, Read, ReadCard, Write, IoControl, MaxInteger, Variable}
use Rattle.algolw_typing.specs.Names.{Entry}
use Rattle.algolw_typing.specs.Types.{ValueType, Logical, Bits, Str, Reference, Gives, Statement, Simple, join, join_all}
use Rattle.algolw_typing.specs.Verdicts.{Verdict, Good, Fault, Silent, part, two_parts, all_parts, unless, value, all_values, ints, statement, all_statements, joined}
use Rattle.algolw_typing.specs.Rows.{bound_row, procedure_row, item_row, if_row, branches, if_else_row, case_value_row, case_do_row, for_row, while_row, assert_row, both_logical_or_bits, operands_fit, link_row, negated_row, integer_row, relation_row, is_row}
use Rattle.algolw_typing.specs.Meanings.{Meaning, a_variable, an_array, a_procedure, a_procedure_formal, a_class, a_field, a_label, a_control, a_standard, FormalType, by_name, by_value, by_result, by_value_result, for_array, for_procedure, standard_alone, procedure_alone, alone_row, no_base, procedure_as_base, standard_as_base, base_row, part_of_string, part_row, Part, a_star, a_phrase, a_setting, as_array, as_procedure, typeless, all_read, no_star, of_phrase, ints_read, field_values, values_read, variables_read, no_references, card_strings, field_of, one_part, standard_row}
use Rattle.algolw_typing.specs.Actuals.{value_actual, result_actual, value_result_actual, array_actual, statement_actual, function_actual, procedure_actual, table_a, actuals_fit, list_row, subscripts, subarray_row}
use Rattle.algolw_typing.specs.Scopes.{Known}
use Rattle.algolw_typing.specs.Typing.{Out, gives, Left, variable_left, control_left, no_variable_left, assign_row, goto_row, use_of, use_alone, use_as_base, use_with_list, for_verdict}

-- a verdict whose fault, where it is one, stands at p
pub data OfPlace (p : Place) : Verdict → Type 0 where
  a_type : {g : Gives} → OfPlace p (Good g)
  a_fault : {n : ℕ} → OfPlace p (Fault n p)
  silence : OfPlace p Silent

-- ---- conditions

pub unless_at : (b : Bool) (n : ℕ) (p : Place) (v : Verdict) → OfPlace p v → OfPlace p (unless b n p v)
unless_at true n p v h = h
unless_at false n p v h = a_fault

pub value_at : (p : Place) (g : Gives) (row : ValueType → Verdict) → ((t : ValueType) → OfPlace p (row t)) → OfPlace p (value p g row)
value_at p Statement row h = a_fault
value_at p (Simple t) row h = h t

pub statement_at : (p : Place) (g : Gives) (v : Verdict) → OfPlace p v → OfPlace p (statement p g v)
statement_at p Statement v h = h
statement_at p (Simple t) v h = a_fault

joined_at : (p : Place) (t : Option ValueType) → OfPlace p (joined p t)
joined_at p None = a_fault
joined_at p (Some t) = a_type

pub part_at : {p : Place} (g : Option Gives) (row : Gives → Verdict) → ((h : Gives) → OfPlace p (row h)) → OfPlace p (part g row)
part_at None row h = silence
part_at (Some g) row h = h g

pub two_at : {p : Place} (a b : Option Gives) (row : Gives → Gives → Verdict) → ((g h : Gives) → OfPlace p (row g h)) → OfPlace p (two_parts a b row)
two_at a b row t = part_at a (λ g. part b (λ h. row g h)) (λ g. part_at b (row g) (t g))

pub all_parts_at : {p : Place} (gs : List (Option Gives)) (row : List Gives → Verdict) → ((hs : List Gives) → OfPlace p (row hs)) → OfPlace p (all_parts gs row)
all_parts_at [] row h = h []
all_parts_at (g ∷ gs) row h = part_at g (λ k. all_parts gs (λ ks. row (k ∷ ks))) (λ k. all_parts_at gs (λ ks. row (k ∷ ks)) (λ ks. h (k ∷ ks)))

ruleset conditions = (a_type, a_fault, silence, unless_at, value_at, statement_at, joined_at, part_at, all_parts_at)

ints_at : (p : Place) (gs : List Gives) (v : Verdict) → OfPlace p v → OfPlace p (ints p gs v)
ints_at p [] v h = h
ints_at p (g ∷ gs) v h = let more = ints_at p gs v h in search conditions

all_statements_at : (p : Place) (gs : List Gives) (v : Verdict) → OfPlace p v → OfPlace p (all_statements p gs v)
all_statements_at p [] v h = h
all_statements_at p (g ∷ gs) v h = statement_at p g (all_statements p gs v) (all_statements_at p gs v h)

all_values_at : (p : Place) (gs : List Gives) (row : List ValueType → Verdict) → ((ts : List ValueType) → OfPlace p (row ts)) → OfPlace p (all_values p gs row)
all_values_at p [] row h = h []
all_values_at p (Statement ∷ gs) row h = a_fault
all_values_at p (Simple t ∷ gs) row h = all_values_at p gs (λ ts. row (t ∷ ts)) (λ ts. h (t ∷ ts))

-- ---- rows without names

pub bound_at : (p : Place) (a b : Gives) → OfPlace p (bound_row p a b)
bound_at p a b = search conditions

pub procedure_at : (p : Place) (result : Option ValueType) (g : Gives) → OfPlace p (procedure_row p result g)
procedure_at p None g = search conditions
procedure_at p (Some t) g = search conditions

item_cases : (b : Bool) (p : Place) (g : Gives) → OfPlace p (elim b [ true ↦ Good g | false ↦ statement p g (Good g) ])
item_cases true p g = a_type
item_cases false p g = statement_at p g (Good g) a_type

pub item_at : (is_last is_labelled : Bool) (p : Place) (g : Gives) → OfPlace p (item_row is_last is_labelled p g)
item_at is_last is_labelled p g = item_cases (is_last && not is_labelled) p g

pub if_at : (p : Place) (c a : Gives) → OfPlace p (if_row p c a)
if_at p c a = search conditions

branches_at : (p : Place) (a b : Gives) → OfPlace p (branches p a b)
branches_at p Statement Statement = a_type
branches_at p Statement (Simple u) = a_fault
branches_at p (Simple t) Statement = a_fault
branches_at p (Simple t) (Simple u) = joined_at p (join t u)

pub if_else_at : (p : Place) (c a b : Gives) → OfPlace p (if_else_row p c a b)
if_else_at p c a b = search (conditions, branches_at)

pub case_value_at : (p : Place) (g : Gives) (gs : List Gives) → OfPlace p (case_value_row p g gs)
case_value_at p g gs = let all = all_values_at p gs (λ ts. joined p (join_all ts)) (λ ts. joined_at p (join_all ts)) in search conditions

pub case_do_at : (p : Place) (g : Gives) (gs : List Gives) → OfPlace p (case_do_row p g gs)
case_do_at p g gs = search (conditions, all_statements_at)

pub for_at : (p : Place) (gs : List Gives) (g : Gives) → OfPlace p (for_row p gs g)
for_at p gs g = search (conditions, ints_at)

pub for_verdict_at : (p : Place) (gs : List (Option Gives)) (body : Out) → OfPlace p (for_verdict p gs body)
for_verdict_at p gs body = all_parts_at gs (λ hs. part (gives body) (for_row p hs)) (λ hs. part_at (gives body) (for_row p hs) (for_at p hs))

pub while_at : (p : Place) (c a : Gives) → OfPlace p (while_row p c a)
while_at p c a = search conditions

pub assert_at : (p : Place) (c : Gives) → OfPlace p (assert_row p c)
assert_at p c = search conditions

both_logical_or_bits_at : (p : Place) (t u : ValueType) → OfPlace p (both_logical_or_bits p t u)
both_logical_or_bits_at p Logical Logical = a_type
both_logical_or_bits_at p Bits Bits = a_type
both_logical_or_bits_at p t u = a_fault

operands_at : (op : Op) (p : Place) (t u : ValueType) → OfPlace p (operands_fit op p t u)
operands_at Or p t u = both_logical_or_bits_at p t u
operands_at And p t u = both_logical_or_bits_at p t u
operands_at Plus p t u = search conditions
operands_at Minus p t u = search conditions
operands_at Times p t u = search conditions
operands_at Slash p t u = a_fault
operands_at Div p t u = search conditions
operands_at Rem p t u = search conditions
operands_at Shl p t u = search conditions
operands_at Shr p t u = search conditions
operands_at Power p t u = a_fault

pub link_at : (op : Op) (p : Place) (a b : Gives) → OfPlace p (link_row op p a b)
link_at op p a b = search (conditions, operands_at)

pub negated_at : (p : Place) (g : Gives) → OfPlace p (negated_row p g)
negated_at p g = search conditions

pub integer_at : (p : Place) (g : Gives) → OfPlace p (integer_row p g)
integer_at p g = search conditions

pub relation_at : (op : RelOp) (p : Place) (a b : Gives) → OfPlace p (relation_row op p a b)
relation_at op p a b = search conditions

pub is_at : (p : Place) (g : Gives) → OfPlace p (is_row p g)
is_at p g = search conditions

pub assign_at : (p : Place) (left : Left) (l r : Gives) → OfPlace p (assign_row p left l r)
assign_at p control_left l r = a_fault
assign_at p no_variable_left l r = a_fault
assign_at p variable_left l r = search conditions

-- ---- a name alone, and as the base of a substring

procedure_alone_at : (p : Place) (result : Option ValueType) (formals : List FormalType) → OfPlace p (procedure_alone p result formals)
procedure_alone_at p result [] = a_type
procedure_alone_at p result (f ∷ formals) = a_fault

standard_alone_at : (p : Place) (s : Standard) → OfPlace p (standard_alone p s)
standard_alone_at p MaxInteger = a_type
standard_alone_at p (Variable width) = a_type
standard_alone_at p s = a_fault

alone_at : (p : Place) (m : Meaning) (d : Place) → OfPlace p (alone_row p m d)
alone_at p (a_variable t) d = a_type
alone_at p (an_array t n) d = a_fault
alone_at p (a_procedure result formals) d = procedure_alone_at p result formals
alone_at p (a_procedure_formal result) d = a_type
alone_at p (a_class fields) d = a_type
alone_at p (a_field c t) d = a_fault
alone_at p a_label d = a_fault
alone_at p a_control d = a_type
alone_at p (a_standard s) d = standard_alone_at p s

no_base_at : (p : Place) (start : Option Gives) → OfPlace p (no_base p start)
no_base_at p None = silence
no_base_at p (Some g) = a_fault

procedure_as_base_at : (p : Place) (result : Option ValueType) (formals : List FormalType) (start : Option Gives) → OfPlace p (procedure_as_base p result formals start)
procedure_as_base_at p (Some t) [] start = a_type
procedure_as_base_at p (Some t) (f ∷ formals) start = no_base_at p start
procedure_as_base_at p None formals start = no_base_at p start

standard_as_base_at : (p : Place) (s : Standard) (start : Option Gives) → OfPlace p (standard_as_base p s start)
standard_as_base_at p MaxInteger start = a_type
standard_as_base_at p (Variable width) start = a_type
standard_as_base_at p s start = no_base_at p start

base_at : (p : Place) (m : Meaning) (start : Option Gives) → OfPlace p (base_row p m start)
base_at p (a_variable t) start = a_type
base_at p (an_array t n) start = no_base_at p start
base_at p (a_procedure result formals) start = procedure_as_base_at p result formals start
base_at p (a_procedure_formal None) start = no_base_at p start
base_at p (a_procedure_formal (Some t)) start = a_type
base_at p (a_class fields) start = no_base_at p start
base_at p (a_field c t) start = no_base_at p start
base_at p a_label start = a_fault
base_at p a_control start = a_type
base_at p (a_standard s) start = standard_as_base_at p s start

part_of_string_at : (q : Place) (n : ℕ) (base : Gives) → OfPlace q (part_of_string q n base)
part_of_string_at q n Statement = a_fault
part_of_string_at q n (Simple (Str m)) = search conditions
part_of_string_at q n (Simple t) = a_fault

pub part_row_at : (q : Place) (n : ℕ) (base start : Gives) → OfPlace q (part_row q n base start)
part_row_at q n base start = let string : OfPlace q (part_of_string q n base) = part_of_string_at q n base in search conditions

-- ---- conditions on the parts of a list

pub all_read_at : {p : Place} (parts : List Part) (v : Verdict) → OfPlace p v → OfPlace p (all_read parts v)
all_read_at [] v h = h
all_read_at (typeless ∷ parts) v h = silence
all_read_at (part ∷ parts) v h = all_read_at parts v h

no_star_at : (p : Place) (parts : List Part) (v : Verdict) → OfPlace p v → OfPlace p (no_star p parts v)
no_star_at p [] v h = h
no_star_at p (a_star ∷ parts) v h = a_fault
no_star_at p (part ∷ parts) v h = no_star_at p parts v h

of_phrase_at : {p : Place} (part : Part) (row : Gives → Verdict) → ((g : Gives) → OfPlace p (row g)) → OfPlace p (of_phrase part row)
of_phrase_at (a_phrase v g) row h = h g
of_phrase_at a_setting row h = h Statement
of_phrase_at part row h = silence

one_part_at : (p : Place) (parts : List Part) (row : Gives → Verdict) → ((g : Gives) → OfPlace p (row g)) → OfPlace p (one_part p parts row)
one_part_at p [] row h = a_fault
one_part_at p (part ∷ []) row h = of_phrase_at part row h
one_part_at p (part ∷ other ∷ parts) row h = a_fault

ints_read_at : (p : Place) (parts : List Part) (v : Verdict) → OfPlace p v → OfPlace p (ints_read p parts v)
ints_read_at p [] v h = h
ints_read_at p (part ∷ parts) v h = let more = ints_read_at p parts v h in search (conditions, of_phrase_at)

field_values_at : (p : Place) (ts : List ValueType) (parts : List Part) (v : Verdict) → OfPlace p v → OfPlace p (field_values p ts parts v)
field_values_at p [] parts v h = h
field_values_at p (t ∷ ts) [] v h = h
field_values_at p (t ∷ ts) (part ∷ parts) v h = let more = field_values_at p ts parts v h in search (conditions, of_phrase_at)

values_read_at : (p : Place) (parts : List Part) (row : List ValueType → Verdict) → ((ts : List ValueType) → OfPlace p (row ts)) → OfPlace p (values_read p parts row)
values_read_at p [] row h = h []
values_read_at p (a_setting ∷ parts) row h = values_read_at p parts row h
values_read_at p (part ∷ parts) row h =
    of_phrase_at part (λ g. value p g (λ t. values_read p parts (λ ts. row (t ∷ ts)))) (λ g. value_at p g (λ t. values_read p parts (λ ts. row (t ∷ ts))) (λ t. values_read_at p parts (λ ts. row (t ∷ ts)) (λ ts. h (t ∷ ts))))

variables_read_at : (p : Place) (parts : List Part) (row : List ValueType → Verdict) → ((ts : List ValueType) → OfPlace p (row ts)) → OfPlace p (variables_read p parts row)
variables_read_at p [] row h = h []
variables_read_at p (a_phrase true (Simple t) ∷ parts) row h = variables_read_at p parts (λ ts. row (t ∷ ts)) (λ ts. h (t ∷ ts))
variables_read_at p (part ∷ parts) row h = a_fault

no_references_at : (p : Place) (ts : List ValueType) (v : Verdict) → OfPlace p v → OfPlace p (no_references p ts v)
no_references_at p [] v h = h
no_references_at p (Reference s ∷ ts) v h = a_fault
no_references_at p (t ∷ ts) v h = no_references_at p ts v h

card_strings_at : (p : Place) (ts : List ValueType) (v : Verdict) → OfPlace p v → OfPlace p (card_strings p ts v)
card_strings_at p [] v h = h
card_strings_at p (Str n ∷ ts) v h = let more = card_strings_at p ts v h in search conditions
card_strings_at p (t ∷ ts) v h = a_fault

ruleset listed_conditions = (conditions, no_star_at, of_phrase_at, one_part_at, ints_read_at, field_values_at, values_read_at, variables_read_at, no_references_at, card_strings_at)

-- ---- a call: each actual against its formal

value_actual_at : (p : Place) (t : ValueType) (part : Part) (v : Verdict) → OfPlace p v → OfPlace p (value_actual p t part v)
value_actual_at p t (a_phrase b g) v h = search conditions
value_actual_at p t typeless v h = silence
value_actual_at p t part v h = a_fault

result_actual_at : (p : Place) (t : ValueType) (part : Part) (v : Verdict) → OfPlace p v → OfPlace p (result_actual p t part v)
result_actual_at p t (a_phrase b g) v h = search conditions
result_actual_at p t typeless v h = silence
result_actual_at p t part v h = a_fault

value_result_actual_at : (p : Place) (t : ValueType) (part : Part) (v : Verdict) → OfPlace p v → OfPlace p (value_result_actual p t part v)
value_result_actual_at p t (a_phrase b g) v h = search conditions
value_result_actual_at p t typeless v h = silence
value_result_actual_at p t part v h = a_fault

array_actual_at : (p : Place) (t : ValueType) (n : ℕ) (part : Part) (v : Verdict) → OfPlace p v → OfPlace p (array_actual p t n part v)
array_actual_at p t n (as_array u m) v h = search conditions
array_actual_at p t n typeless v h = silence
array_actual_at p t n part v h = a_fault

statement_actual_at : (p : Place) (part : Part) (v : Verdict) → OfPlace p v → OfPlace p (statement_actual p part v)
statement_actual_at p (a_phrase b g) v h = search conditions
statement_actual_at p (as_procedure None) v h = h
statement_actual_at p typeless v h = silence
statement_actual_at p part v h = a_fault

function_actual_at : (p : Place) (t : ValueType) (part : Part) (v : Verdict) → OfPlace p v → OfPlace p (function_actual p t part v)
function_actual_at p t (a_phrase b g) v h = search conditions
function_actual_at p t (as_procedure (Some u)) v h = search conditions
function_actual_at p t typeless v h = silence
function_actual_at p t part v h = a_fault

procedure_actual_at : (p : Place) (result : Option ValueType) (part : Part) (v : Verdict) → OfPlace p v → OfPlace p (procedure_actual p result part v)
procedure_actual_at p None part v h = statement_actual_at p part v h
procedure_actual_at p (Some t) part v h = function_actual_at p t part v h

table_at : (p : Place) (f : FormalType) (part : Part) (v : Verdict) → OfPlace p v → OfPlace p (table_a p f part v)
table_at p (by_name t) part v h = value_actual_at p t part v h
table_at p (by_value t) part v h = value_actual_at p t part v h
table_at p (by_result t) part v h = result_actual_at p t part v h
table_at p (by_value_result t) part v h = value_result_actual_at p t part v h
table_at p (for_array t n) part v h = array_actual_at p t n part v h
table_at p (for_procedure result) part v h = procedure_actual_at p result part v h

actuals_at : (p : Place) (fs : List FormalType) (parts : List Part) (v : Verdict) → OfPlace p v → OfPlace p (actuals_fit p fs parts v)
actuals_at p [] parts v h = h
actuals_at p (f ∷ fs) [] v h = h
actuals_at p (f ∷ fs) (part ∷ parts) v h = table_at p f part (actuals_fit p fs parts v) (actuals_at p fs parts v h)

-- ---- a name with a list

standard_at : (p : Place) (s : Standard) (parts : List Part) → OfPlace p (standard_row p s parts)
standard_at p (Function op) parts = search listed_conditions
standard_at p (Read next) parts = search listed_conditions
standard_at p ReadCard parts = search listed_conditions
standard_at p (Write first) parts = search listed_conditions
standard_at p IoControl parts = search listed_conditions
standard_at p MaxInteger parts = a_fault
standard_at p (Variable width) parts = a_fault

field_of_at : (p c : Place) (t u : ValueType) → OfPlace p (field_of p c t u)
field_of_at p c t (Reference s) = search conditions
field_of_at p c t u = a_fault

list_at : (p : Place) (m : Meaning) (d : Place) (parts : List Part) → OfPlace p (list_row p m d parts)
list_at p (a_variable t) d parts = a_fault
list_at p (an_array t n) d parts = search listed_conditions
list_at p (a_procedure result formals) d parts = search (listed_conditions, actuals_at)
list_at p (a_procedure_formal result) d parts = search listed_conditions
list_at p (a_class fields) d parts = search listed_conditions
list_at p (a_field c t) d parts = search (listed_conditions, field_of_at)
list_at p a_label d parts = a_fault
list_at p a_control d parts = a_fault
list_at p (a_standard s) d parts = standard_at p s parts

-- ---- subarrays

subscripts_at : (p : Place) (parts : List Part) (v : Verdict) → OfPlace p v → OfPlace p (subscripts p parts v)
subscripts_at p [] v h = h
subscripts_at p (a_star ∷ parts) v h = subscripts_at p parts v h
subscripts_at p (part ∷ parts) v h = let more = subscripts_at p parts v h in search conditions

pub subarray_at : (p : Place) (n : ℕ) (parts : List Part) → OfPlace p (subarray_row p n parts)
subarray_at p n parts = search (conditions, all_read_at, subscripts_at)

-- ---- what the use of a name gives

use_case : (p : Place) (name : List ℕ) (d : Place) (k : Known) (row : Meaning → Place → Verdict) → ((m : Meaning) → OfPlace p (row m d)) → OfPlace p (use_of p (Some (record { name = name; place = d; is = k })) row)
use_case p name d k row h = go k.means
  where
    go : (m : Option Meaning) → OfPlace p (use_of p (Some (record { name = name; place = d; is = record { is_class = k.is_class; reading = k.reading; means = m } })) row)
    go None = silence
    go (Some m) = h m

use_at : (p : Place) (e : Option (Entry Known)) (row : Meaning → Place → Verdict) → ((m : Meaning) (d : Place) → OfPlace p (row m d)) → OfPlace p (use_of p e row)
use_at p None row h = a_fault
use_at p (Some e) row h = use_case p e.name e.place e.is row (λ m. h m e.place)

pub use_alone_at : (p : Place) (e : Option (Entry Known)) → OfPlace p (use_alone p e)
use_alone_at p e = use_at p e (alone_row p) (alone_at p)

pub use_as_base_at : (p : Place) (e : Option (Entry Known)) (start : Out) → OfPlace p (use_as_base p e start)
use_as_base_at p e start = use_at p e (λ m d. base_row p m (gives start)) (λ m d. base_at p m (gives start))

pub use_with_list_at : (p : Place) (e : Option (Entry Known)) (parts : List Part) → OfPlace p (use_with_list p e parts)
use_with_list_at p e parts = use_at p e (λ m d. all_read parts (list_row p m d parts)) (λ m d. all_read_at parts (list_row p m d parts) (list_at p m d parts))

goto_case : (p : Place) (name : List ℕ) (d : Place) (c : Bool) (k : Known) (m : Option Meaning) → OfPlace p (goto_row p (Some (record { name = name; place = d; is = record { is_class = c; reading = k.reading; means = m } })))
goto_case p name d c k None = silence
goto_case p name d c k (Some a_label) = a_type
goto_case p name d c k (Some m) = a_fault

pub goto_at : (p : Place) (e : Option (Entry Known)) → OfPlace p (goto_row p e)
goto_at p None = a_fault
goto_at p (Some e) = goto_case p e.name e.place e.is.is_class e.is e.is.means

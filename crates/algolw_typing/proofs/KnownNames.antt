-- The classes of what a row for names gives are those of what the name means.
use Rattle.std.proofs.Common.{◌≡◌, ℕ, ℤ, List, [], ◌∷◌, Option, Some, None, Bool, true}
use Rattle.std.specs.Prelude.{⊤}
use Rattle.value_ops.specs.declared.places.Place.{Place}
use Rattle.algolw_tree.specs.declared.standard.Basic.{Basic}
use Rattle.algolw_tree.specs.declared.standard.Basic.TheVariants as basic
use Rattle.algolw_tree.specs.declared.standard.Standard.{Standard}
use Rattle.algolw_tree.specs.declared.standard.Standard.TheVariants as standard
use Rattle.algolw_tree.specs.Standards as standards
use Rattle.algolw_typing.specs.Names.{Entry}
use Rattle.algolw_typing.specs.Types.{ValueType, Gives, Statement, Simple, Str, Reference, has}
use Rattle.algolw_typing.specs.Verdicts.{Verdict, Good, Fault, part, value}
use Rattle.algolw_typing.specs.Meanings.{Meaning, a_variable, an_array, a_procedure, a_procedure_formal, a_class, a_field, a_label, a_control, a_standard, FormalType, by_name, by_value, by_result, by_value_result, for_array, for_procedure, gives_of, basic_type, standard_alone, procedure_alone, alone_row, part_of_string, part_row, Part, a_star, a_phrase, a_setting, as_array, as_procedure, typeless, all_read, no_star, of_phrase, ints_read, field_values, values_read, variables_read, no_references, card_strings, field_of, one_part, standard_row}
use Rattle.algolw_typing.specs.Actuals.{Reading, value_actual, result_actual, value_result_actual, array_actual, statement_actual, function_actual, procedure_actual, table_a, actuals_fit, list_row}
use Rattle.algolw_typing.specs.Scopes.{Known, written}
use Rattle.algolw_typing.specs.Typing.{Out, gives, use_of, use_alone, use_with_list, part_verdict, list_verdict}
use Rattle.algolw_typing.specs.Known.{KnowsType, KnowsResult}
use Rattle.algolw_typing.proofs.KnownTypes.{Tells, a_type, a_fault, silence, a_statement, an_integer, unless_told, value_told, part_told, onward_told, tellings}

-- ---- what is known of a name that means something, and is declared at d

abbrev pub KnowsMeaning : (classes : List Place) → (d : Place) → Meaning → Type 0
KnowsMeaning classes d (a_variable t) = KnowsType classes t
KnowsMeaning classes d (an_array t n) = KnowsType classes t
KnowsMeaning classes d (a_procedure result formals) = KnowsResult classes result
KnowsMeaning classes d (a_procedure_formal result) = KnowsResult classes result
KnowsMeaning classes d (a_class fields) = has classes d ≡ true
KnowsMeaning classes d (a_field c t) = KnowsType classes t
KnowsMeaning classes d m = ⊤

abbrev pub KnowsMeans : (classes : List Place) → (d : Place) → Option Meaning → Type 0
KnowsMeans classes d None = ⊤
KnowsMeans classes d (Some m) = KnowsMeaning classes d m

-- what is found along a path, if anything, is so
abbrev pub FoundIs : (Entry Known → Type 0) → Option (Entry Known) → Type 0
FoundIs P None = ⊤
FoundIs P (Some e) = P e

abbrev pub MeansKnown : (classes : List Place) → Entry Known → Type 0
MeansKnown classes e = KnowsMeans classes e.place e.is.means

result_gives : {classes : List Place} (result : Option ValueType) → KnowsResult classes result → Tells classes (Good (gives_of result))
result_gives None h = a_statement
result_gives (Some t) h = a_type h

-- ---- a name alone, and a substring

procedure_alone_told : {classes : List Place} (p : Place) (result : Option ValueType) (formals : List FormalType) → KnowsResult classes result → Tells classes (procedure_alone p result formals)
procedure_alone_told p result [] h = result_gives result h
procedure_alone_told p result (f ∷ formals) h = a_fault

standard_alone_told : {classes : List Place} (p : Place) (s : Standard) → Tells classes (standard_alone p s)
standard_alone_told p standard.MaxInteger = an_integer
standard_alone_told p (standard.Variable width) = an_integer
standard_alone_told p s = a_fault

alone_told : {classes : List Place} (p : Place) (m : Meaning) (d : Place) → KnowsMeaning classes d m → Tells classes (alone_row p m d)
alone_told p (a_variable t) d h = a_type h
alone_told p (an_array t n) d h = a_fault
alone_told p (a_procedure result formals) d h = procedure_alone_told p result formals h
alone_told p (a_procedure_formal result) d h = result_gives result h
alone_told p (a_class fields) d h = a_type (h, tt)
alone_told p (a_field c t) d h = a_fault
alone_told p a_label d h = a_fault
alone_told p a_control d h = an_integer
alone_told p (a_standard s) d h = standard_alone_told p s

part_of_string_told : {classes : List Place} (q : Place) (n : ℕ) (base : Gives) → Tells classes (part_of_string q n base)
part_of_string_told q n Statement = a_fault
part_of_string_told q n (Simple (Str m)) = search tellings
part_of_string_told q n (Simple t) = a_fault

part_row_told : {classes : List Place} (q : Place) (n : ℕ) (base start : Gives) → Tells classes (part_row q n base start)
part_row_told {classes = classes} q n base start = let string : Tells classes (part_of_string q n base) = part_of_string_told q n base in search tellings

-- ---- conditions on the parts of a list

all_read_told : {classes : List Place} (parts : List Part) (v : Verdict) → Tells classes v → Tells classes (all_read parts v)
all_read_told [] v h = h
all_read_told (typeless ∷ parts) v h = silence
all_read_told (part ∷ parts) v h = all_read_told parts v h

no_star_told : {classes : List Place} (p : Place) (parts : List Part) (v : Verdict) → Tells classes v → Tells classes (no_star p parts v)
no_star_told p [] v h = h
no_star_told p (a_star ∷ parts) v h = a_fault
no_star_told p (part ∷ parts) v h = no_star_told p parts v h

of_phrase_told : {classes : List Place} (part : Part) (row : Gives → Verdict) → ((g : Gives) → Tells classes (row g)) → Tells classes (of_phrase part row)
of_phrase_told (a_phrase v g) row h = h g
of_phrase_told a_setting row h = h Statement
of_phrase_told part row h = silence

one_part_told : {classes : List Place} (p : Place) (parts : List Part) (row : Gives → Verdict) → ((g : Gives) → Tells classes (row g)) → Tells classes (one_part p parts row)
one_part_told p [] row h = a_fault
one_part_told p (part ∷ []) row h = of_phrase_told part row h
one_part_told p (part ∷ other ∷ parts) row h = a_fault

ints_read_told : {classes : List Place} (p : Place) (parts : List Part) (v : Verdict) → Tells classes v → Tells classes (ints_read p parts v)
ints_read_told p [] v h = h
ints_read_told p (part ∷ parts) v h = let more = ints_read_told p parts v h in search (tellings, of_phrase_told)

field_values_told : {classes : List Place} (p : Place) (ts : List ValueType) (parts : List Part) (v : Verdict) → Tells classes v → Tells classes (field_values p ts parts v)
field_values_told p [] parts v h = h
field_values_told p (t ∷ ts) [] v h = h
field_values_told p (t ∷ ts) (part ∷ parts) v h = let more = field_values_told p ts parts v h in search (tellings, of_phrase_told)

values_read_told : {classes : List Place} (p : Place) (parts : List Part) (row : List ValueType → Verdict) → ((ts : List ValueType) → Tells classes (row ts)) → Tells classes (values_read p parts row)
values_read_told p [] row h = h []
values_read_told p (a_setting ∷ parts) row h = values_read_told p parts row h
values_read_told p (part ∷ parts) row h =
    of_phrase_told part (λ g. value p g (λ t. values_read p parts (λ ts. row (t ∷ ts)))) (λ g. value_told p g (λ t. values_read p parts (λ ts. row (t ∷ ts))) (λ t. values_read_told p parts (λ ts. row (t ∷ ts)) (λ ts. h (t ∷ ts))))

variables_read_told : {classes : List Place} (p : Place) (parts : List Part) (row : List ValueType → Verdict) → ((ts : List ValueType) → Tells classes (row ts)) → Tells classes (variables_read p parts row)
variables_read_told p [] row h = h []
variables_read_told p (a_phrase true (Simple t) ∷ parts) row h = variables_read_told p parts (λ ts. row (t ∷ ts)) (λ ts. h (t ∷ ts))
variables_read_told p (part ∷ parts) row h = a_fault

no_references_told : {classes : List Place} (p : Place) (ts : List ValueType) (v : Verdict) → Tells classes v → Tells classes (no_references p ts v)
no_references_told p [] v h = h
no_references_told p (Reference s ∷ ts) v h = a_fault
no_references_told p (t ∷ ts) v h = no_references_told p ts v h

card_strings_told : {classes : List Place} (p : Place) (ts : List ValueType) (v : Verdict) → Tells classes v → Tells classes (card_strings p ts v)
card_strings_told p [] v h = h
card_strings_told p (Str n ∷ ts) v h = let more = card_strings_told p ts v h in search tellings
card_strings_told p (t ∷ ts) v h = a_fault

ruleset listed_tellings = (tellings, no_star_told, of_phrase_told, one_part_told, ints_read_told, field_values_told, values_read_told, variables_read_told, no_references_told, card_strings_told)

-- ---- a call: each actual against its formal

value_actual_told : {classes : List Place} (p : Place) (t : ValueType) (part : Part) (v : Verdict) → Tells classes v → Tells classes (value_actual p t part v)
value_actual_told p t (a_phrase b g) v h = search tellings
value_actual_told p t typeless v h = silence
value_actual_told p t part v h = a_fault

result_actual_told : {classes : List Place} (p : Place) (t : ValueType) (part : Part) (v : Verdict) → Tells classes v → Tells classes (result_actual p t part v)
result_actual_told p t (a_phrase b g) v h = search tellings
result_actual_told p t typeless v h = silence
result_actual_told p t part v h = a_fault

value_result_actual_told : {classes : List Place} (p : Place) (t : ValueType) (part : Part) (v : Verdict) → Tells classes v → Tells classes (value_result_actual p t part v)
value_result_actual_told p t (a_phrase b g) v h = search tellings
value_result_actual_told p t typeless v h = silence
value_result_actual_told p t part v h = a_fault

array_actual_told : {classes : List Place} (p : Place) (t : ValueType) (n : ℕ) (part : Part) (v : Verdict) → Tells classes v → Tells classes (array_actual p t n part v)
array_actual_told p t n (as_array u m) v h = search tellings
array_actual_told p t n typeless v h = silence
array_actual_told p t n part v h = a_fault

statement_actual_told : {classes : List Place} (p : Place) (part : Part) (v : Verdict) → Tells classes v → Tells classes (statement_actual p part v)
statement_actual_told p (a_phrase b g) v h = search tellings
statement_actual_told p (as_procedure None) v h = h
statement_actual_told p typeless v h = silence
statement_actual_told p part v h = a_fault

function_actual_told : {classes : List Place} (p : Place) (t : ValueType) (part : Part) (v : Verdict) → Tells classes v → Tells classes (function_actual p t part v)
function_actual_told p t (a_phrase b g) v h = search tellings
function_actual_told p t (as_procedure (Some u)) v h = search tellings
function_actual_told p t typeless v h = silence
function_actual_told p t part v h = a_fault

procedure_actual_told : {classes : List Place} (p : Place) (result : Option ValueType) (part : Part) (v : Verdict) → Tells classes v → Tells classes (procedure_actual p result part v)
procedure_actual_told p None part v h = statement_actual_told p part v h
procedure_actual_told p (Some t) part v h = function_actual_told p t part v h

table_told : {classes : List Place} (p : Place) (f : FormalType) (part : Part) (v : Verdict) → Tells classes v → Tells classes (table_a p f part v)
table_told p (by_name t) part v h = value_actual_told p t part v h
table_told p (by_value t) part v h = value_actual_told p t part v h
table_told p (by_result t) part v h = result_actual_told p t part v h
table_told p (by_value_result t) part v h = value_result_actual_told p t part v h
table_told p (for_array t n) part v h = array_actual_told p t n part v h
table_told p (for_procedure result) part v h = procedure_actual_told p result part v h

actuals_told : {classes : List Place} (p : Place) (fs : List FormalType) (parts : List Part) (v : Verdict) → Tells classes v → Tells classes (actuals_fit p fs parts v)
actuals_told p [] parts v h = h
actuals_told p (f ∷ fs) [] v h = h
actuals_told p (f ∷ fs) (part ∷ parts) v h = table_told p f part (actuals_fit p fs parts v) (actuals_told p fs parts v h)

-- ---- a name with a list

basic_known : (classes : List Place) (b : Basic) → KnowsType classes (basic_type b)
basic_known classes basic.Integer = tt
basic_known classes basic.Logical = tt
basic_known classes basic.Bits = tt
basic_known classes basic.Character = tt

standard_told : {classes : List Place} (p : Place) (s : Standard) (parts : List Part) → Tells classes (standard_row p s parts)
standard_told {classes = classes} p (standard.Function op) parts = let one : Tells classes (Good (Simple (basic_type (standards.gives op)))) = a_type (basic_known classes (standards.gives op)) in search listed_tellings
standard_told p (standard.Read next) parts = search listed_tellings
standard_told p standard.ReadCard parts = search listed_tellings
standard_told p (standard.Write first) parts = search listed_tellings
standard_told p standard.IoControl parts = search listed_tellings
standard_told p standard.MaxInteger parts = a_fault
standard_told p (standard.Variable width) parts = a_fault

field_of_told : {classes : List Place} (p c : Place) (t u : ValueType) → KnowsType classes t → Tells classes (field_of p c t u)
field_of_told p c t (Reference s) h = unless_told (has s c) 37 p (Good (Simple t)) (a_type h)
field_of_told p c t u h = a_fault

list_told : {classes : List Place} (p : Place) (m : Meaning) (d : Place) (parts : List Part) → KnowsMeaning classes d m → Tells classes (list_row p m d parts)
list_told p (a_variable t) d parts h = a_fault
list_told {classes = classes} p (an_array t n) d parts h = let one : Tells classes (Good (Simple t)) = a_type h in search listed_tellings
list_told p (a_procedure result formals) d parts h = let one = result_gives result h in search (listed_tellings, actuals_told)
list_told p (a_procedure_formal result) d parts h = no_star_told p parts _ (result_gives result h)
list_told {classes = classes} p (a_class fields) d parts h = let one : Tells classes (Good (Simple (Reference (d ∷ [])))) = a_type (h, tt) in search listed_tellings
list_told p (a_field c t) d parts h = no_star_told p parts _ (one_part_told p parts _ (λ g. value_told p g (field_of p c t) (λ u. field_of_told p c t u h)))
list_told p a_label d parts h = a_fault
list_told p a_control d parts h = a_fault
list_told p (a_standard s) d parts h = standard_told p s parts

-- ---- what the use of a name gives

use_case : {classes : List Place} (p : Place) (name : List ℕ) (d : Place) (c : Bool) (reading : Reading) (m : Option Meaning) (row : Meaning → Place → Verdict) → KnowsMeans classes d m → ((n : Meaning) → KnowsMeaning classes d n → Tells classes (row n d))
    → Tells classes (use_of p (Some (record { name = name; place = d; is = record { is_class = c; reading = reading; means = m } })) row)
use_case p name d c reading None row k h = silence
use_case p name d c reading (Some m) row k h = h m k

use_told : {classes : List Place} (p : Place) (e : Option (Entry Known)) (row : Meaning → Place → Verdict) → FoundIs (MeansKnown classes) e → ((m : Meaning) (d : Place) → KnowsMeaning classes d m → Tells classes (row m d)) → Tells classes (use_of p e row)
use_told p None row k h = a_fault
use_told p (Some e) row k h = use_case p e.name e.place e.is.is_class e.is.reading e.is.means row k (λ m known. h m e.place known)

pub use_alone_told : {classes : List Place} (p : Place) (e : Option (Entry Known)) → FoundIs (MeansKnown classes) e → Tells classes (use_alone p e)
use_alone_told p e k = use_told p e (alone_row p) k (λ m d h. alone_told p m d h)

pub use_with_list_told : {classes : List Place} (p : Place) (e : Option (Entry Known)) (parts : List Part) → FoundIs (MeansKnown classes) e → Tells classes (use_with_list p e parts)
use_with_list_told p e parts k = use_told p e (λ m d. all_read parts (list_row p m d parts)) k (λ m d h. all_read_told parts (list_row p m d parts) (list_told p m d parts h))

pub part_verdict_told : {classes : List Place} (q : Place) (n : ℤ) (v : Verdict) (start : Out) → Tells classes (part_verdict q n v start)
part_verdict_told q n v start = onward_told v _ (λ base. part_told (gives start) (part_row q (written n) base) (part_row_told q (written n) base))

pub list_verdict_told : {classes : List Place} (q : Place) (v : Verdict) (parts : List Part) → Tells classes (list_verdict q v parts)
list_verdict_told q v parts = onward_told v _ (λ base. all_read_told parts (Fault 41 q) a_fault)

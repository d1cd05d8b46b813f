-- A row for names gives a type or a fault where the parts of the list are read as the meaning of the name wants.
use Rattle.std.proofs.Common.{ℕ, List, [], ◌∷◌, Option, Some, None, Bool, true, nat_eq, nat_le, length}
use Rattle.std.specs.Prelude.{⊤}
use Rattle.value_ops.specs.declared.places.Place.{Place}
use Rattle.algolw_tree.specs.declared.standard.Basic.{Basic}
use Rattle.algolw_tree.specs.declared.standard.Basic.TheVariants as basic
use Rattle.algolw_tree.specs.declared.standard.Standard.{Standard}
use Rattle.algolw_tree.specs.declared.standard.Standard.TheVariants as standard
use Rattle.algolw_tree.specs.Standards as standards
use Rattle.algolw_typing.specs.Types.{ValueType, Gives, Statement, Simple, Str, Reference, fits}
use Rattle.algolw_typing.specs.Verdicts.{Verdict, Good, unless, value, int}
use Rattle.algolw_typing.specs.Meanings.{Meaning, a_variable, an_array, a_procedure, a_procedure_formal, a_class, a_field, a_label, a_control, a_standard, FormalType, by_name, by_value, by_result, by_value_result, for_array, for_procedure, alone_row, procedure_alone, standard_alone, no_base, procedure_as_base, standard_as_base, base_row, part_of_string, part_row, Part, a_star, a_phrase, a_setting, some_placed, as_array, as_procedure, typeless, all_read, no_star, right_number, of_phrase, ints_read, field_values, values_read, variables_read, no_references, card_strings, one_part, field_of, array_row, class_row, field_row, basic_type, is_basic, one_value_row, read_row, read_card_row, write_row, standard_row}
use Rattle.algolw_typing.specs.Actuals.{Reading, as_phrases, value_actual, result_actual, value_result_actual, array_actual, statement_actual, function_actual, procedure_actual, table_a, actuals_fit, list_row, subscripts, subarray_row}
use Rattle.algolw_typing.proofs.Decided.{Decided, good_is, fault_is, IsTyped, has_type, unless_decided, value_decided, decisions}

-- ---- parts of a list: read; read as a phrase or a `*`; read as a phrase

abbrev pub IsRead : Part → Type 0
IsRead typeless = ⊥
IsRead part = ⊤

abbrev pub AreRead : List Part → Type 0
AreRead [] = ⊤
AreRead (part ∷ parts) = IsRead part × AreRead parts

abbrev pub IsPlain : Part → Type 0
IsPlain a_star = ⊤
IsPlain (a_phrase v g) = ⊤
IsPlain a_setting = ⊤
IsPlain part = ⊥

abbrev pub ArePlain : List Part → Type 0
ArePlain [] = ⊤
ArePlain (part ∷ parts) = IsPlain part × ArePlain parts

abbrev pub IsPhrase : Part → Type 0
IsPhrase (a_phrase v g) = ⊤
IsPhrase a_setting = ⊤
IsPhrase part = ⊥

abbrev pub ArePhrases : List Part → Type 0
ArePhrases [] = ⊤
ArePhrases (part ∷ parts) = IsPhrase part × ArePhrases parts

plain_read : (part : Part) → IsPlain part → IsRead part
plain_read typeless h = h
plain_read part h = tt

pub plain_are_read : (parts : List Part) → ArePlain parts → AreRead parts
plain_are_read [] h = tt
plain_are_read (part ∷ parts) h = (plain_read part h.0, plain_are_read parts h.1)

-- ---- what conditions on parts make of a verdict that is decided

pub all_read_decided : (parts : List Part) (v : Verdict) → AreRead parts → Decided v → Decided (all_read parts v)
all_read_decided [] v r d = d
all_read_decided (typeless ∷ parts) v r d = absurd r.0
all_read_decided (part ∷ parts) v r d = all_read_decided parts v r.1 d

no_star_decided : (p : Place) (parts : List Part) (v : Verdict) → ArePlain parts → (ArePhrases parts → Decided v) → Decided (no_star p parts v)
no_star_decided p [] v h d = d tt
no_star_decided p (a_star ∷ parts) v h d = fault_is
no_star_decided p (a_phrase is_variable g ∷ parts) v h d = no_star_decided p parts v h.1 (λ more. d (tt, more))
no_star_decided p (a_setting ∷ parts) v h d = no_star_decided p parts v h.1 (λ more. d (tt, more))
no_star_decided p (part ∷ parts) v h d = absurd h.0

star_decided : (p : Place) (parts : List Part) (v : Verdict) → Decided v → Decided (no_star p parts v)
star_decided p [] v d = d
star_decided p (a_star ∷ parts) v d = fault_is
star_decided p (part ∷ parts) v d = star_decided p parts v d

of_phrase_decided : (part : Part) (row : Gives → Verdict) → IsPhrase part → ((g : Gives) → Decided (row g)) → Decided (of_phrase part row)
of_phrase_decided (a_phrase v g) row h d = d g
of_phrase_decided a_setting row h d = d Statement
of_phrase_decided part row h d = absurd h

int_decided : (p : Place) (g : Gives) (v : Verdict) → Decided v → Decided (int p g v)
int_decided p g v d = search decisions

ints_read_decided : (p : Place) (parts : List Part) (v : Verdict) → ArePhrases parts → Decided v → Decided (ints_read p parts v)
ints_read_decided p [] v h d = d
ints_read_decided p (part ∷ parts) v h d = of_phrase_decided part (λ g. int p g (ints_read p parts v)) h.0 (λ g. int_decided p g (ints_read p parts v) (ints_read_decided p parts v h.1 d))

fitting_decided : (p : Place) (t : ValueType) (g : Gives) (v : Verdict) → Decided v → Decided (value p g (λ u. unless (fits u t) 37 p v))
fitting_decided p t g v d = search decisions

field_values_decided : (p : Place) (ts : List ValueType) (parts : List Part) (v : Verdict) → ArePhrases parts → Decided v → Decided (field_values p ts parts v)
field_values_decided p [] parts v h d = d
field_values_decided p (t ∷ ts) [] v h d = d
field_values_decided p (t ∷ ts) (part ∷ parts) v h d = of_phrase_decided part (λ g. value p g (λ u. unless (fits u t) 37 p (field_values p ts parts v))) h.0 (λ g. fitting_decided p t g (field_values p ts parts v) (field_values_decided p ts parts v h.1 d))

values_read_decided : (p : Place) (parts : List Part) (row : List ValueType → Verdict) → ArePhrases parts → ((ts : List ValueType) → Decided (row ts)) → Decided (values_read p parts row)
values_read_decided p [] row h d = d []
values_read_decided p (a_setting ∷ parts) row h d = values_read_decided p parts row h.1 d
values_read_decided p (part ∷ parts) row h d = of_phrase_decided part (λ g. value p g (λ t. values_read p parts (λ ts. row (t ∷ ts)))) h.0 (λ g. value_decided p g (λ t. values_read p parts (λ ts. row (t ∷ ts))) (λ t. values_read_decided p parts (λ ts. row (t ∷ ts)) h.1 (λ ts. d (t ∷ ts))))

variables_read_decided : (p : Place) (parts : List Part) (row : List ValueType → Verdict) → ((ts : List ValueType) → Decided (row ts)) → Decided (variables_read p parts row)
variables_read_decided p [] row d = d []
variables_read_decided p (a_phrase true (Simple t) ∷ parts) row d = variables_read_decided p parts (λ ts. row (t ∷ ts)) (λ ts. d (t ∷ ts))
variables_read_decided p (part ∷ parts) row d = fault_is

no_references_decided : (p : Place) (ts : List ValueType) (v : Verdict) → Decided v → Decided (no_references p ts v)
no_references_decided p [] v d = d
no_references_decided p (Reference s ∷ ts) v d = fault_is
no_references_decided p (t ∷ ts) v d = no_references_decided p ts v d

card_strings_decided : (p : Place) (ts : List ValueType) (v : Verdict) → Decided v → Decided (card_strings p ts v)
card_strings_decided p [] v d = d
card_strings_decided p (Str n ∷ ts) v d = unless_decided (nat_le 80 n) 37 p (card_strings p ts v) (card_strings_decided p ts v d)
card_strings_decided p (t ∷ ts) v d = fault_is

one_part_decided : (p : Place) (parts : List Part) (row : Gives → Verdict) → ArePhrases parts → ((g : Gives) → Decided (row g)) → Decided (one_part p parts row)
one_part_decided p [] row h d = fault_is
one_part_decided p (part ∷ []) row h d = of_phrase_decided part row h.0 d
one_part_decided p (part ∷ other ∷ parts) row h d = fault_is

-- ---- a name alone, and as the base of a substring

procedure_alone_decided : (p : Place) (result : Option ValueType) (formals : List FormalType) → Decided (procedure_alone p result formals)
procedure_alone_decided p result [] = good_is
procedure_alone_decided p result (f ∷ formals) = fault_is

standard_alone_decided : (p : Place) (s : Standard) → Decided (standard_alone p s)
standard_alone_decided p standard.MaxInteger = good_is
standard_alone_decided p (standard.Variable width) = good_is
standard_alone_decided p s = fault_is

pub alone_decided : (p : Place) (m : Meaning) (d : Place) → Decided (alone_row p m d)
alone_decided p (a_variable t) d = good_is
alone_decided p (an_array t n) d = fault_is
alone_decided p (a_procedure result formals) d = procedure_alone_decided p result formals
alone_decided p (a_procedure_formal result) d = good_is
alone_decided p (a_class fields) d = good_is
alone_decided p (a_field c t) d = fault_is
alone_decided p a_label d = fault_is
alone_decided p a_control d = good_is
alone_decided p (a_standard s) d = standard_alone_decided p s

no_base_decided : (p : Place) (start : Option Gives) → IsTyped start → Decided (no_base p start)
no_base_decided p _ (has_type {g = g}) = fault_is

procedure_as_base_decided : (p : Place) (result : Option ValueType) (formals : List FormalType) (start : Option Gives) → IsTyped start → Decided (procedure_as_base p result formals start)
procedure_as_base_decided p (Some t) [] start h = good_is
procedure_as_base_decided p (Some t) (f ∷ formals) start h = no_base_decided p start h
procedure_as_base_decided p None formals start h = no_base_decided p start h

standard_as_base_decided : (p : Place) (s : Standard) (start : Option Gives) → IsTyped start → Decided (standard_as_base p s start)
standard_as_base_decided p standard.MaxInteger start h = good_is
standard_as_base_decided p (standard.Variable width) start h = good_is
standard_as_base_decided p s start h = no_base_decided p start h

pub base_decided : (p : Place) (m : Meaning) (start : Option Gives) → IsTyped start → Decided (base_row p m start)
base_decided p (a_variable t) start h = good_is
base_decided p (an_array t n) start h = no_base_decided p start h
base_decided p (a_procedure result formals) start h = procedure_as_base_decided p result formals start h
base_decided p (a_procedure_formal None) start h = no_base_decided p start h
base_decided p (a_procedure_formal (Some t)) start h = good_is
base_decided p (a_class fields) start h = no_base_decided p start h
base_decided p (a_field c t) start h = no_base_decided p start h
base_decided p a_label start h = fault_is
base_decided p a_control start h = good_is
base_decided p (a_standard s) start h = standard_as_base_decided p s start h

part_of_string_decided : (q : Place) (n : ℕ) (base : Gives) → Decided (part_of_string q n base)
part_of_string_decided q n Statement = fault_is
part_of_string_decided q n (Simple (Str m)) = search decisions
part_of_string_decided q n (Simple t) = fault_is

pub part_row_decided : (q : Place) (n : ℕ) (base start : Gives) → Decided (part_row q n base start)
part_row_decided q n base start = int_decided q start (part_of_string q n base) (part_of_string_decided q n base)

-- ---- an actual against its formal

value_actual_decided : (p : Place) (t : ValueType) (part : Part) (v : Verdict) → IsRead part → Decided v → Decided (value_actual p t part v)
value_actual_decided p t (a_phrase is_variable g) v r d = search decisions
value_actual_decided p t typeless v r d = absurd r
value_actual_decided p t part v r d = fault_is

result_actual_decided : (p : Place) (t : ValueType) (part : Part) (v : Verdict) → IsRead part → Decided v → Decided (result_actual p t part v)
result_actual_decided p t (a_phrase is_variable g) v r d = search decisions
result_actual_decided p t typeless v r d = absurd r
result_actual_decided p t part v r d = fault_is

value_result_actual_decided : (p : Place) (t : ValueType) (part : Part) (v : Verdict) → IsRead part → Decided v → Decided (value_result_actual p t part v)
value_result_actual_decided p t (a_phrase is_variable g) v r d = search decisions
value_result_actual_decided p t typeless v r d = absurd r
value_result_actual_decided p t part v r d = fault_is

array_actual_decided : (p : Place) (t : ValueType) (n : ℕ) (part : Part) (v : Verdict) → IsRead part → Decided v → Decided (array_actual p t n part v)
array_actual_decided p t n (as_array u m) v r d = search decisions
array_actual_decided p t n typeless v r d = absurd r
array_actual_decided p t n part v r d = fault_is

statement_actual_decided : (p : Place) (part : Part) (v : Verdict) → IsRead part → Decided v → Decided (statement_actual p part v)
statement_actual_decided p (a_phrase is_variable g) v r d = search decisions
statement_actual_decided p (as_procedure None) v r d = d
statement_actual_decided p typeless v r d = absurd r
statement_actual_decided p part v r d = fault_is

function_actual_decided : (p : Place) (t : ValueType) (part : Part) (v : Verdict) → IsRead part → Decided v → Decided (function_actual p t part v)
function_actual_decided p t (a_phrase is_variable g) v r d = search decisions
function_actual_decided p t (as_procedure (Some u)) v r d = search decisions
function_actual_decided p t typeless v r d = absurd r
function_actual_decided p t part v r d = fault_is

procedure_actual_decided : (p : Place) (result : Option ValueType) (part : Part) (v : Verdict) → IsRead part → Decided v → Decided (procedure_actual p result part v)
procedure_actual_decided p None part v r d = statement_actual_decided p part v r d
procedure_actual_decided p (Some t) part v r d = function_actual_decided p t part v r d

table_decided : (p : Place) (f : FormalType) (part : Part) (v : Verdict) → IsRead part → Decided v → Decided (table_a p f part v)
table_decided p (by_name t) part v r d = value_actual_decided p t part v r d
table_decided p (by_value t) part v r d = value_actual_decided p t part v r d
table_decided p (by_result t) part v r d = result_actual_decided p t part v r d
table_decided p (by_value_result t) part v r d = value_result_actual_decided p t part v r d
table_decided p (for_array t n) part v r d = array_actual_decided p t n part v r d
table_decided p (for_procedure result) part v r d = procedure_actual_decided p result part v r d

actuals_decided : (p : Place) (fs : List FormalType) (parts : List Part) (v : Verdict) → AreRead parts → Decided v → Decided (actuals_fit p fs parts v)
actuals_decided p [] parts v r d = d
actuals_decided p (f ∷ fs) [] v r d = d
actuals_decided p (f ∷ fs) (part ∷ parts) v r d = table_decided p f part (actuals_fit p fs parts v) r.0 (actuals_decided p fs parts v r.1 d)

-- ---- a name with a list

so_many_decided : (p : Place) (n : ℕ) (parts : List Part) (v : Verdict) → Decided v → Decided (right_number p n parts v)
so_many_decided p n parts v d = unless_decided (nat_eq n (length parts)) 39 p v d

field_of_decided : (p c : Place) (t u : ValueType) → Decided (field_of p c t u)
field_of_decided p c t (Reference s) = search decisions
field_of_decided p c t u = fault_is

one_value_decided : (p : Place) (taken : Basic) (parts : List Part) (g : Gives) → ArePlain parts → Decided (one_value_row p taken parts g)
one_value_decided p taken parts g h = no_star_decided p parts _ h (λ more. one_part_decided p parts (λ k. value p k (λ t. unless (is_basic taken t) 37 p (Good g))) more (λ k. search decisions))

read_decided : (p : Place) (parts : List Part) → ArePlain parts → Decided (read_row p parts)
read_decided p parts h = star_decided p parts _ (variables_read_decided p parts (λ ts. no_references p ts (Good Statement)) (λ ts. no_references_decided p ts (Good Statement) good_is))

read_card_decided : (p : Place) (parts : List Part) → ArePlain parts → Decided (read_card_row p parts)
read_card_decided p parts h = star_decided p parts _ (variables_read_decided p parts (λ ts. card_strings p ts (Good Statement)) (λ ts. card_strings_decided p ts (Good Statement) good_is))

write_decided : (p : Place) (parts : List Part) → ArePlain parts → Decided (write_row p parts)
write_decided p parts h = no_star_decided p parts _ h (λ more. unless_decided (some_placed parts) 39 p _ (values_read_decided p parts (λ ts. no_references p ts (Good Statement)) more (λ ts. no_references_decided p ts (Good Statement) good_is)))

standard_decided : (p : Place) (s : Standard) (parts : List Part) → ArePlain parts → Decided (standard_row p s parts)
standard_decided p (standard.Function op) parts h = one_value_decided p (standards.takes op) parts (Simple (basic_type (standards.gives op))) h
standard_decided p (standard.Read next) parts h = read_decided p parts h
standard_decided p standard.ReadCard parts h = read_card_decided p parts h
standard_decided p (standard.Write first) parts h = write_decided p parts h
standard_decided p standard.IoControl parts h = one_value_decided p basic.Integer parts Statement h
standard_decided p standard.MaxInteger parts h = fault_is
standard_decided p (standard.Variable width) parts h = fault_is

array_decided : (p : Place) (t : ValueType) (n : ℕ) (parts : List Part) → ArePlain parts → Decided (array_row p t n parts)
array_decided p t n parts h = no_star_decided p parts _ h (λ more. so_many_decided p n parts _ (ints_read_decided p parts (Good (Simple t)) more good_is))

class_decided : (p : Place) (fields : List ValueType) (d : Place) (parts : List Part) → ArePlain parts → Decided (class_row p fields d parts)
class_decided p fields d parts h = no_star_decided p parts _ h (λ more. so_many_decided p (length fields) parts _ (field_values_decided p fields parts (Good (Simple (Reference (d ∷ [])))) more good_is))

field_decided : (p c : Place) (t : ValueType) (parts : List Part) → ArePlain parts → Decided (field_row p c t parts)
field_decided p c t parts h = no_star_decided p parts _ h (λ more. one_part_decided p parts (λ g. value p g (field_of p c t)) more (λ g. value_decided p g (field_of p c t) (field_of_decided p c t)))

-- ---- how the parts behind a name are read: as phrases, but for procedures and procedure formals

abbrev pub ReadsPhrases : Reading → Type 0
ReadsPhrases as_phrases = ⊤
ReadsPhrases reading = ⊥

abbrev pub Agrees : Meaning → Reading → Type 0
Agrees (a_procedure result formals) reading = ⊤
Agrees (a_procedure_formal result) reading = ⊤
Agrees m reading = ReadsPhrases reading

-- parts that are read so
pub record ReadBy (reading : Reading) (parts : List Part) : Type 0 where
  pub are_read : AreRead parts
  pub are_plain : ReadsPhrases reading → ArePlain parts

pub list_decided : (p : Place) (m : Meaning) (d : Place) (reading : Reading) (parts : List Part) → Agrees m reading → ReadBy reading parts → Decided (list_row p m d parts)
list_decided p (a_variable t) d reading parts a r = fault_is
list_decided p (an_array t n) d reading parts a r = array_decided p t n parts (r.are_plain a)
list_decided p (a_procedure result formals) d reading parts a r = star_decided p parts _ (so_many_decided p (length formals) parts _ (actuals_decided p formals parts _ r.are_read good_is))
list_decided p (a_procedure_formal result) d reading parts a r = star_decided p parts _ good_is
list_decided p (a_class fields) d reading parts a r = class_decided p fields d parts (r.are_plain a)
list_decided p (a_field c t) d reading parts a r = field_decided p c t parts (r.are_plain a)
list_decided p a_label d reading parts a r = fault_is
list_decided p a_control d reading parts a r = fault_is
list_decided p (a_standard s) d reading parts a r = standard_decided p s parts (r.are_plain a)

-- ---- subarrays

subscripts_decided : (p : Place) (parts : List Part) (v : Verdict) → ArePlain parts → Decided v → Decided (subscripts p parts v)
subscripts_decided p [] v h d = d
subscripts_decided p (a_star ∷ parts) v h d = subscripts_decided p parts v h.1 d
subscripts_decided p (a_phrase is_variable g ∷ parts) v h d = int_decided p g (subscripts p parts v) (subscripts_decided p parts v h.1 d)
subscripts_decided p (a_setting ∷ parts) v h d = int_decided p Statement (subscripts p parts v) (subscripts_decided p parts v h.1 d)
subscripts_decided p (part ∷ parts) v h d = absurd h.0

pub subarray_decided : (p : Place) (n : ℕ) (parts : List Part) → ArePlain parts → Decided (subarray_row p n parts)
subarray_decided p n parts h = all_read_decided parts _ (plain_are_read parts h) (so_many_decided p n parts _ (subscripts_decided p parts (Good Statement) h good_is))

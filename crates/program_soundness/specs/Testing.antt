-- A test of whether a phrase fits.
use Rattle.std.specs.Prelude.{ℕ, List, [], ◌∷◌, map, length, Option, Some, None, Bool, true, false, ◌&&◌, nat_eq, nat_le, nat_lt}
use Rattle.value_ops.specs.declared.places.Place.{Place}
use Rattle.value_ops.specs.declared.values.Value.{Value}
use Rattle.value_ops.specs.declared.values.Value.TheVariants as value
use Rattle.algolw_tree.specs.declared.phrases.Op.{Op}
use Rattle.algolw_tree.specs.declared.phrases.Op.TheVariants as op
use Rattle.algolw_tree.specs.declared.phrases.RelOp.{RelOp}
use Rattle.algolw_tree.specs.declared.phrases.RelOp.TheVariants as rel
use Rattle.algolw_typing.specs.Types.{ValueType, Gives, Statement, Simple, Str, Reference}
use Rattle.algolw_typing.specs.Meanings.{FormalType, by_name, by_value, by_result, by_value_result, for_array, for_procedure}
use Rattle.algolw_typing.specs.Programs.{TypedProgram}
use Rattle.program_meaning.specs.Phrases.{Phrase, Empty, Constant, Named, Variable, Array, Label, Procedure, Copied, Unary, Binary, Relation, IsClass, Element, Field, Part, Record, RecordAlone, IfThen, Case, Block, Call, Assign, WhileDo, ForStep, ForList, Goto, Assert, Write, Read, ReadCard, IoControl, Phrases, no_phrases, phrase_and, Targets, no_targets, target_and, Subscripts, no_subscripts, star_and, subscript_and, Actuals, no_actuals, actual_and, Actual, Given, Alone, Subarray, Items, no_items, item_and, Bounds, no_bounds, bound_and, Decls, no_decls, variables_and, arrays_and, procedure_and, Formal, Role, placed, sets}
use Rattle.program_meaning.specs.Translating.{program_phrase}
use Rattle.program_soundness.specs.Kinds.{Kind, an_integer, a_truth, some_bits, a_string, a_reference, kind_of, Want, a_statement, a_value, a_place, result_want, given_want, operand_of, answer_of, left_of, right_of, Meaning, a_variable, a_control, an_array, a_label, a_procedure, a_procedure_formal, Context, meaning_in, Table, at_control, with_formals, with_block}
use Rattle.program_soundness.specs.Fits.{named_meaning, field_kind, phrase_count, subscript_count, they_fit}
use Rattle.program_soundness.specs.Tables.{table_of, all_infos, are_apart}

-- ---- kinds and wants

abbrev pub is_kind : Kind → Kind → Bool
is_kind an_integer an_integer = true
is_kind a_truth a_truth = true
is_kind some_bits some_bits = true
is_kind a_string a_string = true
is_kind a_reference a_reference = true
is_kind j k = false

abbrev pub is_want : Want → Want → Bool
is_want a_statement a_statement = true
is_want (a_value j) (a_value k) = is_kind j k
is_want (a_place j) (a_place k) = is_kind j k
is_want v w = false

abbrev pub are_kinds : List Kind → List Kind → Bool
are_kinds [] [] = true
are_kinds (j ∷ js) (k ∷ ks) = is_kind j k && are_kinds js ks
are_kinds js ks = false

abbrev pub is_variable : Kind → Want → Bool
is_variable k a_statement = false
is_variable k (a_value j) = is_kind j k
is_variable k (a_place j) = is_kind j k

abbrev pub is_no_place : Want → Bool
is_no_place (a_place k) = false
is_no_place want = true

abbrev pub is_result : Option ValueType → Want → Bool
is_result None want = is_no_place want
is_result (Some t) want = is_want want (a_value (kind_of t))

abbrev pub is_proper : ValueType → Bool
is_proper (Str n) = nat_le 1 n
is_proper t = true

abbrev pub is_proper_result : Option ValueType → Bool
is_proper_result None = true
is_proper_result (Some t) = is_proper t

abbrev pub is_proper_given : Gives → Bool
is_proper_given Statement = true
is_proper_given (Simple t) = is_proper t

abbrev pub is_proper_formal : FormalType → Bool
is_proper_formal (by_name t) = is_proper t
is_proper_formal (by_value t) = is_proper t
is_proper_formal (by_result t) = is_proper t
is_proper_formal (by_value_result t) = is_proper t
is_proper_formal (for_array t n) = true
is_proper_formal (for_procedure result) = is_proper_result result

abbrev pub are_proper : List Formal → Bool
are_proper [] = true
are_proper (f ∷ fs) = is_proper_formal f.is && are_proper fs

abbrev pub is_read : ValueType → Bool
is_read (Reference set) = false
is_read t = is_proper t

-- ---- operators and constants

abbrev pub is_used : Op → Bool
is_used op.Slash = false
is_used op.Power = false
is_used o = true

abbrev pub is_ordered : Kind → Bool
is_ordered an_integer = true
is_ordered a_string = true
is_ordered k = false

abbrev pub is_compared : RelOp → Kind → Bool
is_compared rel.Equal k = true
is_compared rel.NotEqual k = true
is_compared o k = is_ordered k

abbrev pub is_constant : Value → Want → Bool
is_constant (value.Integer n) want = is_want want (a_value an_integer)
is_constant (value.Logical b) want = is_want want (a_value a_truth)
is_constant (value.Bits b) want = is_want want (a_value some_bits)
is_constant (value.Str (c ∷ cs)) want = is_want want (a_value a_string)
is_constant (value.Reference None) want = is_want want (a_value a_reference)
is_constant v want = false

-- ---- names

abbrev pub is_named : Option Meaning → Want → Bool
is_named (Some (a_variable k)) want = is_variable k want
is_named (Some a_control) want = is_want want (a_value an_integer)
is_named m want = false

-- the name of an array of so many dimensions, whose elements are wanted so
abbrev pub is_element : Option Meaning → ℕ → Want → Bool
is_element (Some (an_array t n)) d want = nat_eq n d && is_variable (kind_of t) want
is_element m d want = false

abbrev pub is_array : Option Meaning → ℕ → Bool
is_array (Some (an_array t n)) d = nat_eq n d
is_array m d = false

abbrev pub is_label : Option Meaning → Bool
is_label (Some a_label) = true
is_label m = false

abbrev pub is_passed : Option Meaning → Bool
is_passed (Some (an_array t n)) = true
is_passed (Some (a_procedure result formals)) = true
is_passed (Some (a_procedure_formal result)) = true
is_passed m = false

abbrev pub is_field : Option Kind → Want → Bool
is_field (Some k) want = is_variable k want
is_field None want = false

abbrev pub is_record : Option (List Kind) → List Kind → Bool
is_record (Some js) ks = are_kinds js ks
is_record None ks = false

abbrev pub has_fields : Option (List Kind) → ℕ → Bool
has_fields (Some js) n = nat_eq (length js) n
has_fields None n = false

abbrev pub is_call : Bool → Context → Place → Option Meaning → Actuals → Want → Bool
is_call false c p (Some (a_procedure result formals)) given want = is_want want (result_want result) && they_fit c p formals given
is_call true c p (Some (a_procedure result formals)) given want = is_want want (result_want result)
is_call true c p (Some (a_procedure_formal result)) given want = is_want want (result_want result)
is_call compares c p m given want = false

abbrev pub is_assigned : Option Place → Kind → Want → Bool
is_assigned st k a_statement = true
is_assigned None k (a_value j) = is_kind j k
is_assigned (Some st) k (a_value j) = false
is_assigned st k (a_place j) = false

abbrev pub if_variable : Bool → Gives → (Kind → Bool) → Bool
if_variable true (Simple t) f = f (kind_of t)
if_variable true Statement f = true
if_variable false g f = true

-- ---- the kind of a value, by the look of its phrase

abbrev pub constant_kind : Value → Kind
constant_kind (value.Integer n) = an_integer
constant_kind (value.Logical b) = a_truth
constant_kind (value.Bits b) = some_bits
constant_kind (value.Str s) = a_string
constant_kind (value.Reference r) = a_reference

abbrev pub type_kind : Option ValueType → Kind
type_kind (Some t) = kind_of t
type_kind None = an_integer

abbrev pub name_kind : Option Meaning → Kind
name_kind (Some (a_variable k)) = k
name_kind (Some (an_array t n)) = kind_of t
name_kind (Some (a_procedure result formals)) = type_kind result
name_kind (Some (a_procedure_formal result)) = type_kind result
name_kind m = an_integer

abbrev pub or_integer : Option Kind → Kind
or_integer (Some k) = k
or_integer None = an_integer

module _ (table : Table) where
  abbrev mutual
    pub look : Context → Phrase → Kind
    look c (Constant v) = constant_kind v
    look c (Named x) = name_kind (meaning_in c x)
    look c (Unary o a) = answer_of o
    look c (Binary o a b) = left_of o
    look c (Relation o a b) = a_truth
    look c (IsClass a class) = a_truth
    look c (Element a subscripts) = name_kind (named_meaning c a)
    look c (Field class position a) = or_integer (field_kind (table.fields class) position)
    look c (Part m n a start) = a_string
    look c (Record class types values) = a_reference
    look c (RecordAlone class n) = a_reference
    look c (IfThen st (Some t) a b otherwise) = kind_of t
    look c (IfThen st None a b otherwise) = a_truth
    look c (Case st t a parts) = type_kind t
    look c (Block st p decls items) = last_look (with_block table decls items c) items
    look c (Call st compares p a given) = name_kind (named_meaning c a)
    look c (Assign st t a b) = kind_of t
    look c a = an_integer

    pub last_look : Context → Items → Kind
    last_look c no_items = an_integer
    last_look c (item_and labels a no_items) = look c a
    last_look c (item_and labels a (item_and more b rest)) = last_look c (item_and more b rest)

-- ---- phrases

module _ (table : Table) where
  abbrev mutual
    pub fits : Context → Phrase → Want → Bool
    fits c Empty want = is_want want a_statement
    fits c (Constant v) want = is_constant v want
    fits c (Named x) want = is_named (meaning_in c x) want
    fits c (Variable k) want = nat_lt k 2 && is_variable an_integer want
    fits c (Array k given) want = false
    fits c (Label l) want = false
    fits c (Procedure k) want = false
    fits c (Copied mark a) want = false
    fits c (Unary o a) want = is_want want (a_value (answer_of o)) && fits c a (a_value (operand_of o))
    fits c (Binary o a b) want = is_want want (a_value (left_of o)) && (is_used o && (fits c a (a_value (left_of o)) && fits c b (a_value (right_of o))))
    fits c (Relation o a b) want = is_want want (a_value a_truth) && (is_compared o (look table c a) && (fits c a (a_value (look table c a)) && fits c b (a_value (look table c a))))
    fits c (IsClass a class) want = is_want want (a_value a_truth) && fits c a (a_value a_reference)
    fits c (Element a subscripts) want = is_element (named_meaning c a) (phrase_count subscripts) want && all_fit c subscripts (a_value an_integer)
    fits c (Field class position a) want = is_field (field_kind (table.fields class) position) want && fits c a (a_value a_reference)
    fits c (Part m n a start) want = is_variable a_string want && (nat_le 1 m && (nat_le 1 n && (fits c a want && fits c start (a_value an_integer))))
    fits c (Record class types values) want = is_want want (a_value a_reference) && (is_record (table.fields class.place) (map kind_of types) && fields_fit c types values)
    fits c (RecordAlone class n) want = is_want want (a_value a_reference) && has_fields (table.fields class.place) n
    fits c (IfThen st t a b otherwise) want = is_result t want && (is_proper_result t && (fits c a (a_value a_truth) && (fits c b want && fits c otherwise want)))
    fits c (Case st t a parts) want = is_result t want && (is_proper_result t && (fits c a (a_value an_integer) && all_fit c parts want))
    fits c (Block st p decls items) want = is_no_place want && (decls_fit c (with_block table decls items c) decls && items_fit (with_block table decls items c) items want)
    fits c (Call st compares p a given) want = is_call compares c p (named_meaning c a) given want && actuals_fit c given
    fits c (Assign st t a b) want = is_assigned st (kind_of t) want && (is_proper t && (fits c a (a_place (kind_of t)) && fits c b (a_value (kind_of t))))
    fits c (WhileDo st a body) want = is_want want a_statement && (fits c a (a_value a_truth) && fits c body a_statement)
    fits c (ForStep st x from step to body) want = is_want want a_statement && (fits c from (a_value an_integer) && (fits c step (a_value an_integer) && (fits c to (a_value an_integer) && fits (at_control x.place c) body a_statement)))
    fits c (ForList st x values body) want = is_want want a_statement && (all_fit c values (a_value an_integer) && fits (at_control x.place c) body a_statement)
    fits c (Goto st a) want = is_want want a_statement && is_label (named_meaning c a)
    fits c (Assert st a) want = is_want want a_statement && fits c a (a_value a_truth)
    fits c (Write st first roles values) want = is_want want a_statement && values_fit c roles values
    fits c (Read st next targets) want = is_want want a_statement && targets_fit c targets
    fits c (ReadCard st targets) want = is_want want a_statement && cards_fit c targets
    fits c (IoControl st a) want = is_want want a_statement && fits c a (a_value an_integer)

    pub all_fit : Context → Phrases → Want → Bool
    all_fit c no_phrases want = true
    all_fit c (phrase_and a rest) want = fits c a want && all_fit c rest want

    pub values_fit : Context → List Role → Phrases → Bool
    values_fit c roles no_phrases = true
    values_fit c [] (phrase_and a rest) = false
    values_fit c (placed ∷ roles) (phrase_and a rest) = fits c a (a_value (look table c a)) && values_fit c roles rest
    values_fit c (sets n ∷ roles) (phrase_and a rest) = fits c a (a_value an_integer) && values_fit c roles rest

    pub fields_fit : Context → List ValueType → Phrases → Bool
    fields_fit c [] no_phrases = true
    fields_fit c [] (phrase_and a rest) = false
    fields_fit c (t ∷ ts) no_phrases = false
    fields_fit c (t ∷ ts) (phrase_and a rest) = is_proper t && (fits c a (a_value (kind_of t)) && fields_fit c ts rest)

    pub targets_fit : Context → Targets → Bool
    targets_fit c no_targets = true
    targets_fit c (target_and t a rest) = is_read t && (fits c a (a_place (kind_of t)) && targets_fit c rest)

    pub cards_fit : Context → Targets → Bool
    cards_fit c no_targets = true
    cards_fit c (target_and t a rest) = is_kind (kind_of t) a_string && (is_proper t && (fits c a (a_place (kind_of t)) && cards_fit c rest))

    pub subscripts_fit : Context → Subscripts → Bool
    subscripts_fit c no_subscripts = true
    subscripts_fit c (star_and rest) = subscripts_fit c rest
    subscripts_fit c (subscript_and a rest) = fits c a (a_value an_integer) && subscripts_fit c rest

    pub items_fit : Context → Items → Want → Bool
    items_fit c no_items want = is_want want a_statement
    items_fit c (item_and labels a no_items) want = fits c a want
    items_fit c (item_and labels a (item_and more b rest)) want = fits c a a_statement && items_fit c (item_and more b rest) want

    pub bounds_fit : Context → Bounds → Bool
    bounds_fit c no_bounds = true
    bounds_fit c (bound_and a b rest) = fits c a (a_value an_integer) && (fits c b (a_value an_integer) && bounds_fit c rest)

    pub decls_fit : Context → Context → Decls → Bool
    decls_fit around c no_decls = true
    decls_fit around c (variables_and names rest) = decls_fit around c rest
    decls_fit around c (arrays_and t names bounds rest) = bounds_fit around bounds && decls_fit around c rest
    decls_fit around c (procedure_and x result formals body rest) = (is_proper_result result && (are_proper formals && fits (with_formals formals c) body (result_want result))) && decls_fit around c rest

    pub actuals_fit : Context → Actuals → Bool
    actuals_fit c no_actuals = true
    actuals_fit c (actual_and a rest) = actual_fits c a && actuals_fit c rest

    pub actual_fits : Context → Actual → Bool
    actual_fits c (Given v g first a) = fits c a (given_want g) && (is_proper_given g && if_variable v g (λ k. fits c a (a_place k)))
    actual_fits c (Alone p a) = is_passed (named_meaning c a)
    actual_fits c (Subarray a subscripts) = is_array (named_meaning c a) (subscript_count subscripts) && subscripts_fit c subscripts

-- the test of a program, whose declared places are apart
abbrev pub program_fits : TypedProgram → Bool
program_fits p = are_apart (all_infos p.root) && fits (table_of (all_infos p.root)) [] (program_phrase p) a_statement

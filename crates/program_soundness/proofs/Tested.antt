-- What passes the test fits.
use Rattle.std.proofs.Common.{◌≡◌, ℕ, List, [], ◌∷◌, map, length, refl, ap, ◌∙◌}
use Rattle.std.proofs.lemmas.Bool.{eqb-true}
use borrow.Author.Tests.{ltb-true}
use Rattle.std.specs.Prelude.{Option, Some, None, Bool, true, false, ◌&&◌, nat_eq, nat_le, nat_lt}
use Rattle.value_ops.specs.declared.places.Place.{Place}
use Rattle.value_ops.specs.declared.values.Value.{Value}
use Rattle.value_ops.specs.declared.values.Value.TheVariants as value
use Rattle.algolw_tree.specs.declared.phrases.Op.{Op}
use Rattle.algolw_tree.specs.declared.phrases.Op.TheVariants as op
use Rattle.algolw_tree.specs.declared.phrases.RelOp.{RelOp}
use Rattle.algolw_tree.specs.declared.phrases.RelOp.TheVariants as rel
use Rattle.algolw_typing.specs.Types.{ValueType, Gives, Statement, Simple, Integer, Logical, Bits, Str, Reference}
use Rattle.algolw_typing.specs.Meanings.{FormalType, by_name, by_value, by_result, by_value_result, for_array, for_procedure}
use Rattle.program_meaning.specs.Phrases.{Phrase, Empty, Constant, Named, Variable, Array, Label, Procedure, Copied, Unary, Binary, Relation, IsClass, Element, Field, Part, Record, RecordAlone, IfThen, Case, Block, Call, Assign, WhileDo, ForStep, ForList, Goto, Assert, Write, Read, ReadCard, IoControl, Phrases, no_phrases, phrase_and, Targets, no_targets, target_and, Subscripts, no_subscripts, star_and, subscript_and, Actuals, no_actuals, actual_and, Actual, Given, Alone, Subarray, Items, no_items, item_and, Bounds, no_bounds, bound_and, Decls, no_decls, variables_and, arrays_and, procedure_and, Formal, Role, placed, sets}
use Rattle.program_soundness.specs.Kinds.{Kind, an_integer, a_truth, some_bits, a_string, a_reference, kind_of, Want, a_statement, a_value, a_place, result_want, given_want, IsVariable, IsProper, IsProperResult, IsProperGiven, IsProperFormal, AreProper, operand_of, answer_of, IsUsed, left_of, right_of, IsOrdered, IsCompared, IsConstant, Meaning, a_variable, a_control, an_array, a_label, a_procedure, a_procedure_formal, Context, meaning_in, Table, at_control, with_formals, with_block}
use Rattle.program_soundness.specs.Fits.{Names, IsNamed, IsNoPlace, IsResult, CallFits, IsAssigned, IsPassed, IsRead, Fits, AllFit, ValuesFit, FieldsFit, TargetsFit, CardsFit, SubscriptsFit, ItemsFit, BoundsFit, DeclsFit, ActualsFit, ActualFits, named_meaning, field_kind, phrase_count, subscript_count, they_fit}
use Rattle.program_soundness.specs.Testing.{is_kind, is_want, are_kinds, look, is_variable, is_no_place, is_result, is_proper, is_proper_result, is_proper_given, is_proper_formal, are_proper, is_read, is_used, is_ordered, is_compared, is_constant, is_named, is_element, is_array, is_label, is_passed, is_field, is_record, has_fields, is_call, is_assigned, fits, all_fit, values_fit, fields_fit, targets_fit, cards_fit, subscripts_fit, items_fit, bounds_fit, decls_fit, actuals_fit, actual_fits}
use Rattle.program_meaning.specs.Translating.{program_phrase}
use Rattle.program_soundness.specs.Tables.{table_of, all_infos, are_apart}
use Rattle.program_soundness.specs.Laws.{WhatPassesNeverGoesWrong}
use Rattle.program_soundness.proofs.Runs.{what_fits_never_goes_wrong}
use Rattle.program_soundness.proofs.Arrays.{both_true}
use Rattle.program_soundness.proofs.Values.{le_told}

-- ---- kinds and wants

kind_read : (j k : Kind) → is_kind j k ≡ true → j ≡ k
kind_read an_integer an_integer e = refl
kind_read a_truth a_truth e = refl
kind_read some_bits some_bits e = refl
kind_read a_string a_string e = refl
kind_read a_reference a_reference e = refl
kind_read _ _ e = absurd (cc e)

want_read : (v w : Want) → is_want v w ≡ true → v ≡ w
want_read a_statement a_statement e = refl
want_read (a_value j) (a_value k) e = ap a_value (kind_read j k e)
want_read (a_place j) (a_place k) e = ap a_place (kind_read j k e)
want_read _ _ e = absurd (cc e)

kinds_read : (js ks : List Kind) → are_kinds js ks ≡ true → js ≡ ks
kinds_read [] [] e = refl
kinds_read [] (k ∷ ks) e = absurd (cc e)
kinds_read (j ∷ js) [] e = absurd (cc e)
kinds_read (j ∷ js) (k ∷ ks) e = let h = both_true (is_kind j k) (are_kinds js ks) e in ap (λ i. i ∷ js) (kind_read j k h.0) ∙ ap (λ is. k ∷ is) (kinds_read js ks h.1)

variable_read : (k : Kind) (want : Want) → is_variable k want ≡ true → IsVariable k want
variable_read k a_statement e = absurd (cc e)
variable_read k (a_value j) e = kind_read j k e
variable_read k (a_place j) e = kind_read j k e

no_place_read : (want : Want) → is_no_place want ≡ true → IsNoPlace want
no_place_read a_statement e = tt
no_place_read (a_value k) e = tt
no_place_read (a_place k) e = absurd (cc e)

made_read : (t : Option ValueType) (want : Want) → is_result t want ≡ true → IsResult t want
made_read None want e = no_place_read want e
made_read (Some t) want e = want_read want (a_value (kind_of t)) e

proper_read : (t : ValueType) → is_proper t ≡ true → IsProper t
proper_read Integer e = tt
proper_read Logical e = tt
proper_read Bits e = tt
proper_read (Str n) e = le_told 1 n e
proper_read (Reference set) e = tt

result_read : (t : Option ValueType) → is_proper_result t ≡ true → IsProperResult t
result_read None e = tt
result_read (Some t) e = proper_read t e

given_read : (g : Gives) → is_proper_given g ≡ true → IsProperGiven g
given_read Statement e = tt
given_read (Simple t) e = proper_read t e

formal_read : (f : FormalType) → is_proper_formal f ≡ true → IsProperFormal f
formal_read (by_name t) e = proper_read t e
formal_read (by_value t) e = proper_read t e
formal_read (by_result t) e = proper_read t e
formal_read (by_value_result t) e = proper_read t e
formal_read (for_array t n) e = tt
formal_read (for_procedure result) e = result_read result e

formals_read : (fs : List Formal) → are_proper fs ≡ true → AreProper fs
formals_read [] e = tt
formals_read (f ∷ fs) e = let h = both_true (is_proper_formal f.is) (are_proper fs) e in (formal_read f.is h.0, formals_read fs h.1)

read_read : (t : ValueType) → is_read t ≡ true → IsRead t
read_read Integer e = tt
read_read Logical e = tt
read_read Bits e = tt
read_read (Str n) e = le_told 1 n e
read_read (Reference set) e = absurd (cc e)

used_read : (o : Op) → is_used o ≡ true → IsUsed o
used_read op.Slash e = absurd (cc e)
used_read op.Power e = absurd (cc e)
used_read _ e = tt

ordered_read : (k : Kind) → is_ordered k ≡ true → IsOrdered k
ordered_read an_integer e = tt
ordered_read a_string e = tt
ordered_read _ e = absurd (cc e)

compared_read : (o : RelOp) (k : Kind) → is_compared o k ≡ true → IsCompared o k
compared_read rel.Equal k e = tt
compared_read rel.NotEqual k e = tt
compared_read _ k e = ordered_read k e

constant_read : (v : Value) (want : Want) → is_constant v want ≡ true → (k : Kind) × (want ≡ a_value k) × IsConstant k v
constant_read (value.Integer n) want e = (an_integer, want_read want (a_value an_integer) e, tt)
constant_read (value.Logical b) want e = (a_truth, want_read want (a_value a_truth) e, tt)
constant_read (value.Bits b) want e = (some_bits, want_read want (a_value some_bits) e, tt)
constant_read (value.Str []) want e = absurd (cc e)
constant_read (value.Str (c ∷ cs)) want e = (a_string, want_read want (a_value a_string) e, tt)
constant_read (value.Reference None) want e = (a_reference, want_read want (a_value a_reference) e, tt)
constant_read (value.Reference (Some r)) want e = absurd (cc e)

-- ---- names

named_read : (o : Option Meaning) (want : Want) → is_named o want ≡ true → IsNamed o want
named_read (Some (a_variable k)) want e = variable_read k want e
named_read (Some a_control) want e = want_read want (a_value an_integer) e
named_read (Some (an_array t n)) want e = absurd (cc e)
named_read (Some a_label) want e = absurd (cc e)
named_read (Some (a_procedure r fs)) want e = absurd (cc e)
named_read (Some (a_procedure_formal r)) want e = absurd (cc e)
named_read None want e = absurd (cc e)

names_read : (c : Context) (a : Phrase) (m : Meaning) → named_meaning c a ≡ Some m → Names c a m
names_read c (Named x) m e = (x, refl, e)
names_read c _ m e = absurd (cc e)

element_read : (o : Option Meaning) (d : ℕ) (want : Want) → is_element o d want ≡ true → (t : ValueType) × (o ≡ Some (an_array t d)) × IsVariable (kind_of t) want
element_read (Some (an_array t n)) d want e = let h = both_true (nat_eq n d) (is_variable (kind_of t) want) e in (t, ap (λ j. Some (an_array t j)) (eqb-true n d h.0), variable_read (kind_of t) want h.1)
element_read (Some (a_variable k)) d want e = absurd (cc e)
element_read (Some a_control) d want e = absurd (cc e)
element_read (Some a_label) d want e = absurd (cc e)
element_read (Some (a_procedure r fs)) d want e = absurd (cc e)
element_read (Some (a_procedure_formal r)) d want e = absurd (cc e)
element_read None d want e = absurd (cc e)

array_read : (o : Option Meaning) (d : ℕ) → is_array o d ≡ true → (t : ValueType) × (o ≡ Some (an_array t d))
array_read (Some (an_array t n)) d e = (t, ap (λ j. Some (an_array t j)) (eqb-true n d e))
array_read (Some (a_variable k)) d e = absurd (cc e)
array_read (Some a_control) d e = absurd (cc e)
array_read (Some a_label) d e = absurd (cc e)
array_read (Some (a_procedure r fs)) d e = absurd (cc e)
array_read (Some (a_procedure_formal r)) d e = absurd (cc e)
array_read None d e = absurd (cc e)

label_read : (o : Option Meaning) → is_label o ≡ true → o ≡ Some a_label
label_read (Some a_label) e = refl
label_read (Some (a_variable k)) e = absurd (cc e)
label_read (Some a_control) e = absurd (cc e)
label_read (Some (an_array t n)) e = absurd (cc e)
label_read (Some (a_procedure r fs)) e = absurd (cc e)
label_read (Some (a_procedure_formal r)) e = absurd (cc e)
label_read None e = absurd (cc e)

passed_read : (o : Option Meaning) → is_passed o ≡ true → (m : Meaning) × (o ≡ Some m) × IsPassed m
passed_read (Some (an_array t n)) e = (an_array t n, refl, tt)
passed_read (Some (a_procedure r fs)) e = (a_procedure r fs, refl, tt)
passed_read (Some (a_procedure_formal r)) e = (a_procedure_formal r, refl, tt)
passed_read (Some (a_variable k)) e = absurd (cc e)
passed_read (Some a_control) e = absurd (cc e)
passed_read (Some a_label) e = absurd (cc e)
passed_read None e = absurd (cc e)

field_read : (o : Option Kind) (want : Want) → is_field o want ≡ true → (k : Kind) × (o ≡ Some k) × IsVariable k want
field_read (Some k) want e = (k, refl, variable_read k want e)
field_read None want e = absurd (cc e)

record_read : (o : Option (List Kind)) (ks : List Kind) → is_record o ks ≡ true → o ≡ Some ks
record_read (Some js) ks e = ap Some (kinds_read js ks e)
record_read None ks e = absurd (cc e)

fields_read : (o : Option (List Kind)) (n : ℕ) → has_fields o n ≡ true → (ks : List Kind) × (o ≡ Some ks) × (length ks ≡ n)
fields_read (Some js) n e = (js, refl, eqb-true (length js) n e)
fields_read None n e = absurd (cc e)

assigned_read : (st : Option Place) (k : Kind) (want : Want) → is_assigned st k want ≡ true → IsAssigned st k want
assigned_read st k a_statement e = tt
assigned_read None k (a_value j) e = kind_read j k e
assigned_read (Some st) k (a_value j) e = absurd (cc e)
assigned_read st k (a_place j) e = absurd (cc e)

call_read : (compares : Bool) (c : Context) (p : Place) (a : Phrase) (o : Option Meaning) (given : Actuals) (want : Want) → named_meaning c a ≡ o → is_call compares c p o given want ≡ true → (r : Option ValueType) × (want ≡ result_want r) × CallFits compares c p a r given
call_read false c p a (Some (a_procedure r fs)) given want q e = let h = both_true (is_want want (result_want r)) (they_fit c p fs given) e in (r, want_read want (result_want r) h.0, (fs, names_read c a (a_procedure r fs) q, h.1))
call_read true c p a (Some (a_procedure r fs)) given want q e = (r, want_read want (result_want r) e, (a_procedure r fs, names_read c a (a_procedure r fs) q, refl))
call_read true c p a (Some (a_procedure_formal r)) given want q e = (r, want_read want (result_want r) e, (a_procedure_formal r, names_read c a (a_procedure_formal r) q, refl))
call_read false c p a (Some (a_procedure_formal r)) given want q e = absurd (cc e)
call_read b c p a (Some (a_variable k)) given want q e = absurd (no_call b e) where
  no_call : (b : Bool) → is_call b c p (Some (a_variable k)) given want ≡ true → ⊥
  no_call true e = cc
  no_call false e = cc
call_read b c p a (Some a_control) given want q e = absurd (no_call b e) where
  no_call : (b : Bool) → is_call b c p (Some a_control) given want ≡ true → ⊥
  no_call true e = cc
  no_call false e = cc
call_read b c p a (Some (an_array t n)) given want q e = absurd (no_call b e) where
  no_call : (b : Bool) → is_call b c p (Some (an_array t n)) given want ≡ true → ⊥
  no_call true e = cc
  no_call false e = cc
call_read b c p a (Some a_label) given want q e = absurd (no_call b e) where
  no_call : (b : Bool) → is_call b c p (Some a_label) given want ≡ true → ⊥
  no_call true e = cc
  no_call false e = cc
call_read b c p a None given want q e = absurd (no_call b e) where
  no_call : (b : Bool) → is_call b c p None given want ≡ true → ⊥
  no_call true e = cc
  no_call false e = cc

-- ---- phrases

module _ (table : Table) where
  mutual
    pub fits_read : (a : Phrase) (c : Context) (want : Want) → fits table c a want ≡ true → Fits table c a want
    fits_read Empty c want e = want_read want a_statement e
    fits_read (Constant v) c want e = constant_read v want e
    fits_read (Named x) c want e = named_read (meaning_in c x) want e
    fits_read (Variable k) c want e = let h = both_true (nat_lt k 2) _ e in (ltb-true k 2 h.0, variable_read an_integer want h.1)
    fits_read (Array k given) c want e = absurd (cc e)
    fits_read (Label l) c want e = absurd (cc e)
    fits_read (Procedure k) c want e = absurd (cc e)
    fits_read (Copied mark a) c want e = absurd (cc e)
    fits_read (Unary o a) c want e = let h = both_true (is_want want (a_value (answer_of o))) _ e in (want_read want (a_value (answer_of o)) h.0, fits_read a c (a_value (operand_of o)) h.1)
    fits_read (Binary o a b) c want e =
        let h = both_true (is_want want (a_value (left_of o))) _ e in
        let i = both_true (is_used o) _ h.1 in
        let j = both_true (fits table c a (a_value (left_of o))) _ i.1 in
        (want_read want (a_value (left_of o)) h.0, used_read o i.0, fits_read a c (a_value (left_of o)) j.0, fits_read b c (a_value (right_of o)) j.1)
    fits_read (Relation o a b) c want e =
        let h = both_true (is_want want (a_value a_truth)) _ e in
        let k = look table c a in
        let i = both_true (is_compared o k) _ h.1 in
        let j = both_true (fits table c a (a_value k)) _ i.1 in
        (k, want_read want (a_value a_truth) h.0, compared_read o k i.0, fits_read a c (a_value k) j.0, fits_read b c (a_value k) j.1)
    fits_read (IsClass a class) c want e = let h = both_true (is_want want (a_value a_truth)) _ e in (want_read want (a_value a_truth) h.0, fits_read a c (a_value a_reference) h.1)
    fits_read (Element a indices) c want e =
        let h = both_true (is_element (named_meaning c a) (phrase_count indices) want) _ e in
        let i = element_read (named_meaning c a) (phrase_count indices) want h.0 in
        (i.0, names_read c a (an_array i.0 (phrase_count indices)) i.1, i.2, all_read indices c (a_value an_integer) h.1)
    fits_read (Field class position a) c want e =
        let h = both_true (is_field (field_kind (table.fields class) position) want) _ e in
        let i = field_read (field_kind (table.fields class) position) want h.0 in
        (i.0, i.1, i.2, fits_read a c (a_value a_reference) h.1)
    fits_read (Part m n a start) c want e =
        let h = both_true (is_variable a_string want) _ e in
        let i = both_true (nat_le 1 m) _ h.1 in
        let j = both_true (nat_le 1 n) _ i.1 in
        let k = both_true (fits table c a want) _ j.1 in
        (variable_read a_string want h.0, le_told 1 m i.0, le_told 1 n j.0, fits_read a c want k.0, fits_read start c (a_value an_integer) k.1)
    fits_read (Record class types values) c want e =
        let h = both_true (is_want want (a_value a_reference)) _ e in
        let i = both_true (is_record (table.fields class.place) (map kind_of types)) _ h.1 in
        (want_read want (a_value a_reference) h.0, record_read (table.fields class.place) (map kind_of types) i.0, values_of_fields values c types i.1)
    fits_read (RecordAlone class n) c want e =
        let h = both_true (is_want want (a_value a_reference)) _ e in
        let i = fields_read (table.fields class.place) n h.1 in
        (i.0, want_read want (a_value a_reference) h.0, i.1, i.2)
    fits_read (IfThen st t a b otherwise) c want e =
        let h = both_true (is_result t want) _ e in
        let i = both_true (is_proper_result t) _ h.1 in
        let j = both_true (fits table c a (a_value a_truth)) _ i.1 in
        let k = both_true (fits table c b want) _ j.1 in
        (made_read t want h.0, result_read t i.0, fits_read a c (a_value a_truth) j.0, fits_read b c want k.0, fits_read otherwise c want k.1)
    fits_read (Case st t a parts) c want e =
        let h = both_true (is_result t want) _ e in
        let i = both_true (is_proper_result t) _ h.1 in
        let j = both_true (fits table c a (a_value an_integer)) _ i.1 in
        (made_read t want h.0, result_read t i.0, fits_read a c (a_value an_integer) j.0, all_read parts c want j.1)
    fits_read (Block st p decls items) c want e =
        let h = both_true (is_no_place want) _ e in
        let i = both_true (decls_fit table c (with_block table decls items c) decls) _ h.1 in
        (no_place_read want h.0, decls_read decls c (with_block table decls items c) i.0, items_read items (with_block table decls items c) want i.1)
    fits_read (Call st compares p a given) c want e =
        let h = both_true (is_call compares c p (named_meaning c a) given want) _ e in
        let i = call_read compares c p a (named_meaning c a) given want refl h.0 in
        (i.0, i.1, i.2, actuals_read given c h.1)
    fits_read (Assign st t a b) c want e =
        let h = both_true (is_assigned st (kind_of t) want) _ e in
        let i = both_true (is_proper t) _ h.1 in
        let j = both_true (fits table c a (a_place (kind_of t))) _ i.1 in
        (assigned_read st (kind_of t) want h.0, proper_read t i.0, fits_read a c (a_place (kind_of t)) j.0, fits_read b c (a_value (kind_of t)) j.1)
    fits_read (WhileDo st a body) c want e =
        let h = both_true (is_want want a_statement) _ e in
        let i = both_true (fits table c a (a_value a_truth)) _ h.1 in
        (want_read want a_statement h.0, fits_read a c (a_value a_truth) i.0, fits_read body c a_statement i.1)
    fits_read (ForStep st x from step to body) c want e =
        let h = both_true (is_want want a_statement) _ e in
        let i = both_true (fits table c from (a_value an_integer)) _ h.1 in
        let j = both_true (fits table c step (a_value an_integer)) _ i.1 in
        let k = both_true (fits table c to (a_value an_integer)) _ j.1 in
        (want_read want a_statement h.0, fits_read from c (a_value an_integer) i.0, fits_read step c (a_value an_integer) j.0, fits_read to c (a_value an_integer) k.0, fits_read body (at_control x.place c) a_statement k.1)
    fits_read (ForList st x values body) c want e =
        let h = both_true (is_want want a_statement) _ e in
        let i = both_true (all_fit table c values (a_value an_integer)) _ h.1 in
        (want_read want a_statement h.0, all_read values c (a_value an_integer) i.0, fits_read body (at_control x.place c) a_statement i.1)
    fits_read (Goto st a) c want e = let h = both_true (is_want want a_statement) _ e in (want_read want a_statement h.0, names_read c a a_label (label_read (named_meaning c a) h.1))
    fits_read (Assert st a) c want e = let h = both_true (is_want want a_statement) _ e in (want_read want a_statement h.0, fits_read a c (a_value a_truth) h.1)
    fits_read (Write st first roles values) c want e = let h = both_true (is_want want a_statement) _ e in (want_read want a_statement h.0, values_read values roles c h.1)
    fits_read (Read st next targets) c want e = let h = both_true (is_want want a_statement) _ e in (want_read want a_statement h.0, targets_read targets c h.1)
    fits_read (ReadCard st targets) c want e = let h = both_true (is_want want a_statement) _ e in (want_read want a_statement h.0, cards_read targets c h.1)
    fits_read (IoControl st a) c want e = let h = both_true (is_want want a_statement) _ e in (want_read want a_statement h.0, fits_read a c (a_value an_integer) h.1)

    all_read : (ps : Phrases) (c : Context) (want : Want) → all_fit table c ps want ≡ true → AllFit table c ps want
    all_read no_phrases c want e = tt
    all_read (phrase_and a rest) c want e = let h = both_true (fits table c a want) _ e in (fits_read a c want h.0, all_read rest c want h.1)

    values_read : (ps : Phrases) (roles : List Role) (c : Context) → values_fit table c roles ps ≡ true → ValuesFit table c roles ps
    values_read no_phrases roles c e = tt
    values_read (phrase_and a rest) [] c e = absurd (cc e)
    values_read (phrase_and a rest) (placed ∷ roles) c e =
        let h = both_true (fits table c a (a_value (look table c a))) _ e in
        (look table c a, fits_read a c (a_value (look table c a)) h.0, values_read rest roles c h.1)
    values_read (phrase_and a rest) (sets n ∷ roles) c e =
        let h = both_true (fits table c a (a_value an_integer)) _ e in
        (fits_read a c (a_value an_integer) h.0, values_read rest roles c h.1)

    values_of_fields : (ps : Phrases) (c : Context) (ts : List ValueType) → fields_fit table c ts ps ≡ true → FieldsFit table c ts ps
    values_of_fields no_phrases c [] e = tt
    values_of_fields (phrase_and a rest) c [] e = absurd (cc e)
    values_of_fields no_phrases c (t ∷ ts) e = absurd (cc e)
    values_of_fields (phrase_and a rest) c (t ∷ ts) e =
        let h = both_true (is_proper t) _ e in
        let i = both_true (fits table c a (a_value (kind_of t))) _ h.1 in
        (proper_read t h.0, fits_read a c (a_value (kind_of t)) i.0, values_of_fields rest c ts i.1)

    targets_read : (ps : Targets) (c : Context) → targets_fit table c ps ≡ true → TargetsFit table c ps
    targets_read no_targets c e = tt
    targets_read (target_and t a rest) c e =
        let h = both_true (is_read t) _ e in
        let i = both_true (fits table c a (a_place (kind_of t))) _ h.1 in
        (read_read t h.0, fits_read a c (a_place (kind_of t)) i.0, targets_read rest c i.1)

    cards_read : (ps : Targets) (c : Context) → cards_fit table c ps ≡ true → CardsFit table c ps
    cards_read no_targets c e = tt
    cards_read (target_and t a rest) c e =
        let h = both_true (is_kind (kind_of t) a_string) _ e in
        let i = both_true (is_proper t) _ h.1 in
        let j = both_true (fits table c a (a_place (kind_of t))) _ i.1 in
        (kind_read (kind_of t) a_string h.0, proper_read t i.0, fits_read a c (a_place (kind_of t)) j.0, cards_read rest c j.1)

    subscripts_read : (ps : Subscripts) (c : Context) → subscripts_fit table c ps ≡ true → SubscriptsFit table c ps
    subscripts_read no_subscripts c e = tt
    subscripts_read (star_and rest) c e = subscripts_read rest c e
    subscripts_read (subscript_and a rest) c e = let h = both_true (fits table c a (a_value an_integer)) _ e in (fits_read a c (a_value an_integer) h.0, subscripts_read rest c h.1)

    items_read : (is : Items) (c : Context) (want : Want) → items_fit table c is want ≡ true → ItemsFit table c is want
    items_read no_items c want e = want_read want a_statement e
    items_read (item_and labels a no_items) c want e = fits_read a c want e
    items_read (item_and labels a (item_and more b rest)) c want e = let h = both_true (fits table c a a_statement) _ e in (fits_read a c a_statement h.0, items_read (item_and more b rest) c want h.1)

    bounds_read : (bs : Bounds) (c : Context) → bounds_fit table c bs ≡ true → BoundsFit table c bs
    bounds_read no_bounds c e = tt
    bounds_read (bound_and a b rest) c e =
        let h = both_true (fits table c a (a_value an_integer)) _ e in
        let i = both_true (fits table c b (a_value an_integer)) _ h.1 in
        (fits_read a c (a_value an_integer) h.0, fits_read b c (a_value an_integer) i.0, bounds_read rest c i.1)

    decls_read : (ds : Decls) (around c : Context) → decls_fit table around c ds ≡ true → DeclsFit table around c ds
    decls_read no_decls around c e = tt
    decls_read (variables_and names rest) around c e = decls_read rest around c e
    decls_read (arrays_and t names pairs rest) around c e = let h = both_true (bounds_fit table around pairs) _ e in (bounds_read pairs around h.0, decls_read rest around c h.1)
    decls_read (procedure_and x result formals body rest) around c e =
        let h = both_true (is_proper_result result && (are_proper formals && fits table (with_formals formals c) body (result_want result))) _ e in
        let i = both_true (is_proper_result result) _ h.0 in
        let j = both_true (are_proper formals) _ i.1 in
        ((result_read result i.0, formals_read formals j.0, fits_read body (with_formals formals c) (result_want result) j.1), decls_read rest around c h.1)

    actuals_read : (ps : Actuals) (c : Context) → actuals_fit table c ps ≡ true → ActualsFit table c ps
    actuals_read no_actuals c e = tt
    actuals_read (actual_and a rest) c e = let h = both_true (actual_fits table c a) _ e in (actual_read a c h.0, actuals_read rest c h.1)

    actual_read : (a : Actual) (c : Context) → actual_fits table c a ≡ true → ActualFits table c a
    actual_read (Given false g first a) c e =
        let h = both_true (fits table c a (given_want g)) _ e in
        let i = both_true (is_proper_given g) _ h.1 in
        (fits_read a c (given_want g) h.0, given_read g i.0, tt)
    actual_read (Given true Statement first a) c e =
        let h = both_true (fits table c a a_statement) _ e in
        (fits_read a c a_statement h.0, tt, tt)
    actual_read (Given true (Simple t) first a) c e =
        let h = both_true (fits table c a (a_value (kind_of t))) _ e in
        let i = both_true (is_proper t) _ h.1 in
        (fits_read a c (a_value (kind_of t)) h.0, proper_read t i.0, fits_read a c (a_place (kind_of t)) i.1)
    actual_read (Alone p a) c e = let h = passed_read (named_meaning c a) e in (h.0, names_read c a h.0 h.1, h.2)
    actual_read (Subarray a indices) c e =
        let h = both_true (is_array (named_meaning c a) (subscript_count indices)) _ e in
        let i = array_read (named_meaning c a) (subscript_count indices) h.0 in
        (i.0, names_read c a (an_array i.0 (subscript_count indices)) i.1, subscripts_read indices c h.1)

pub what_passes_never_goes_wrong : WhatPassesNeverGoesWrong
what_passes_never_goes_wrong set p e =
    let is = all_infos p.root in
    let h = both_true (are_apart is) (fits (table_of is) [] (program_phrase p) a_statement) e in
    what_fits_never_goes_wrong set (table_of is) (program_phrase p) (fits_read (table_of is) (program_phrase p) [] a_statement h.1)

-- What the parts of a list are read as says what they give as phrases.
use Rattle.std.proofs.Common.{◌≡◌, ℕ, Bool, true, false, List, [], ◌∷◌, Option, Some, None, map, refl, sym, ap, ◌∙◌}
use Rattle.value_ops.specs.declared.places.Place.{Place}
use Rattle.algolw_tree.specs.Tree as tree
use Rattle.algolw_typing.specs.Actuals.{Reading, Wanted, phrase_wanted, formal_wanted, none_wanted, any_wanted, behind, is_subarray, is_variable_name, name_read, phrase_part, procedure_name, subarray_row, wanted, wants_procedure}
use Rattle.algolw_typing.specs.Meanings.{FormalType, Meaning, a_variable, an_array, a_procedure, a_procedure_formal, a_class, a_field, a_label, a_control, a_standard, Part, a_star, typeless, alone_row, gives_of}
use Rattle.algolw_typing.specs.Names.{Entry, declared}
use Rattle.algolw_typing.specs.Scopes.{Known, Scopes}
use Rattle.algolw_typing.specs.Typed as typed
use Rattle.algolw_typing.specs.Types.{Gives, Statement, Simple, ValueType, fits}
use Rattle.algolw_typing.specs.Typing.{Out, PartOut, Left, control_left, no_variable_left, variable_left, assign_row, left_of, right_end, is_setting, setting_given, setting_part, array_given, given, gives, list_given, meaning_of, name_given, part_of_node, parts_of_actuals, parts_of_kind, phrase_given, read_as, subarray_given, typed_parts, typed_phrase, use_alone, variable_name}
use Rattle.algolw_typing.specs.Verdicts.{Verdict, Good, Fault, Silent, type_of, part, unless, value}
use Rattle.typed_phrases.specs.Readings.{plain}

abbrev IsPlain : PartOut → Type 0
IsPlain r = plain r.part ≡ part_of_node r.node

as_phrase : (b : Bool) (g : Option Gives) → plain (phrase_part b g) ≡ phrase_part false g
as_phrase b None = refl
as_phrase b (Some g) = refl

phrase_plain : (b : Bool) (o : Out) → typed.gives o.node ≡ gives o → IsPlain (phrase_given b o)
phrase_plain b o h = as_phrase b (gives o) ∙ ap (phrase_part false) (sym h)

read_plain : (b : Bool) (g : Option Gives) (o : Out) → g ≡ gives o → typed.gives o.node ≡ gives o → IsPlain (read_as (phrase_part b g) o)
read_plain b None o e h = ap (phrase_part false) (e ∙ sym h)
read_plain b (Some g) o e h = ap (phrase_part false) (e ∙ sym h)

-- without what it gives a node is read as a part without type
no_type : (n : typed.Node) → typeless ≡ part_of_node (typed.untyped n)
no_type (typed.At p f g s k) = refl

-- a procedure's name alone
procedure_plain : (wants : Bool) (result : Option ValueType) (o : Out) → Some (gives_of result) ≡ gives o → typed.gives o.node ≡ gives o → IsPlain (read_as (procedure_name wants result []) o)
procedure_plain true result o e h = no_type o.node
procedure_plain false result o e h = ap (phrase_part false) (e ∙ sym h)

formals_plain : (wants : Bool) (result : Option ValueType) (f : FormalType) (formals : List FormalType) (o : Out) → IsPlain (read_as (procedure_name wants result (f ∷ formals)) o)
formals_plain true result f formals o = no_type o.node
formals_plain false result f formals o = no_type o.node

-- a name alone that means this, with its own verdict
name_plain : (w : Wanted) (m : Meaning) (p d : Place) (o : Out) → o.verdict ≡ alone_row p m d → typed.gives o.node ≡ gives o → IsPlain (read_as (name_read w m o.verdict) o)
name_plain phrase_wanted m p d o v h = read_plain (is_variable_name m) (gives o) o refl h
name_plain (formal_wanted f) (an_array t n) p d o v h = no_type o.node
name_plain (formal_wanted f) (a_procedure result []) p d o v h = procedure_plain (wants_procedure f) result o (sym (ap type_of v)) h
name_plain (formal_wanted f) (a_procedure result (g ∷ formals)) p d o v h = formals_plain (wants_procedure f) result g formals o
name_plain (formal_wanted f) (a_procedure_formal result) p d o v h = procedure_plain (wants_procedure f) result o (sym (ap type_of v)) h
name_plain (formal_wanted f) (a_variable t) p d o v h = read_plain (is_variable_name (a_variable t)) (gives o) o refl h
name_plain (formal_wanted f) (a_class ts) p d o v h = read_plain (is_variable_name (a_class ts)) (gives o) o refl h
name_plain (formal_wanted f) (a_field c t) p d o v h = read_plain (is_variable_name (a_field c t)) (gives o) o refl h
name_plain (formal_wanted f) a_label p d o v h = read_plain (is_variable_name a_label) (gives o) o refl h
name_plain (formal_wanted f) a_control p d o v h = read_plain (is_variable_name a_control) (gives o) o refl h
name_plain (formal_wanted f) (a_standard s) p d o v h = read_plain (is_variable_name (a_standard s)) (gives o) o refl h
name_plain none_wanted (an_array t n) p d o v h = no_type o.node
name_plain none_wanted (a_procedure result formals) p d o v h = no_type o.node
name_plain none_wanted (a_procedure_formal result) p d o v h = read_plain (is_variable_name (a_procedure_formal result)) (gives o) o refl h
name_plain none_wanted (a_variable t) p d o v h = read_plain (is_variable_name (a_variable t)) (gives o) o refl h
name_plain none_wanted (a_class ts) p d o v h = read_plain (is_variable_name (a_class ts)) (gives o) o refl h
name_plain none_wanted (a_field c t) p d o v h = read_plain (is_variable_name (a_field c t)) (gives o) o refl h
name_plain none_wanted a_label p d o v h = read_plain (is_variable_name a_label) (gives o) o refl h
name_plain none_wanted a_control p d o v h = read_plain (is_variable_name a_control) (gives o) o refl h
name_plain none_wanted (a_standard s) p d o v h = read_plain (is_variable_name (a_standard s)) (gives o) o refl h
name_plain any_wanted (an_array t n) p d o v h = no_type o.node
name_plain any_wanted (a_procedure result formals) p d o v h = no_type o.node
name_plain any_wanted (a_procedure_formal result) p d o v h = no_type o.node
name_plain any_wanted (a_variable t) p d o v h = read_plain (is_variable_name (a_variable t)) (gives o) o refl h
name_plain any_wanted (a_class ts) p d o v h = read_plain (is_variable_name (a_class ts)) (gives o) o refl h
name_plain any_wanted (a_field c t) p d o v h = read_plain (is_variable_name (a_field c t)) (gives o) o refl h
name_plain any_wanted a_label p d o v h = read_plain (is_variable_name a_label) (gives o) o refl h
name_plain any_wanted a_control p d o v h = read_plain (is_variable_name a_control) (gives o) o refl h
name_plain any_wanted (a_standard s) p d o v h = read_plain (is_variable_name (a_standard s)) (gives o) o refl h

alone_plain : (w : Wanted) (p : Place) (e : Option (Entry Known)) (o : Out) → o.verdict ≡ use_alone p e → typed.gives o.node ≡ gives o → IsPlain (name_given w (meaning_of e) o)
alone_plain w p None o v h = phrase_plain false o h
alone_plain w p (Some e) o v h = by e.is.means v where
  by : (m : Option Meaning) → o.verdict ≡ use_alone p (Some (record { name = e.name; place = e.place; is = record { is_class = e.is.is_class; reading = e.is.reading; means = m } })) → IsPlain (name_given w m o)
  by None v = phrase_plain false o h
  by (Some m) v = name_plain w m p e.place o v h

-- a name with one list
subarray_plain : (w : Wanted) (t : ValueType) (parts : List Part) (v : Verdict) (o : Out) → IsPlain (subarray_given w t parts v o)
subarray_plain phrase_wanted t parts (Good g) o = no_type o.node
subarray_plain (formal_wanted f) t parts (Good g) o = no_type o.node
subarray_plain none_wanted t parts (Good g) o = no_type o.node
subarray_plain any_wanted t parts (Good g) o = no_type o.node
subarray_plain phrase_wanted t parts (Fault n p) o = no_type o.node
subarray_plain (formal_wanted f) t parts (Fault n p) o = no_type o.node
subarray_plain none_wanted t parts (Fault n p) o = no_type o.node
subarray_plain any_wanted t parts (Fault n p) o = no_type o.node
subarray_plain phrase_wanted t parts Silent o = no_type o.node
subarray_plain (formal_wanted f) t parts Silent o = no_type o.node
subarray_plain none_wanted t parts Silent o = no_type o.node
subarray_plain any_wanted t parts Silent o = no_type o.node

array_plain : (p : Place) (w : Wanted) (t : ValueType) (n : ℕ) (parts : List Part) (o : Out) → typed.gives o.node ≡ gives o → IsPlain (array_given p w t n parts o)
array_plain p w t n parts o h = by (is_subarray w parts) where
  by : (b : Bool) → IsPlain (elim b as (λ c. PartOut) [ true ↦ subarray_given w t parts (subarray_row p n parts) o | false ↦ phrase_given true o ])
  by true = subarray_plain w t parts (subarray_row p n parts) o
  by false = phrase_plain true o h

list_plain : (p : Place) (w : Wanted) (m : Option Meaning) (o : Out) → typed.gives o.node ≡ gives o → IsPlain (list_given p w m o)
list_plain p w (Some (an_array t n)) o h = array_plain p w t n (parts_of_kind (typed.kind o.node)) o h
list_plain p w None o h = phrase_plain false o h
list_plain p w (Some (a_variable t)) o h = phrase_plain (variable_name (Some (a_variable t))) o h
list_plain p w (Some (a_procedure r fs)) o h = phrase_plain (variable_name (Some (a_procedure r fs))) o h
list_plain p w (Some (a_procedure_formal r)) o h = phrase_plain (variable_name (Some (a_procedure_formal r))) o h
list_plain p w (Some (a_class ts)) o h = phrase_plain (variable_name (Some (a_class ts))) o h
list_plain p w (Some (a_field c t)) o h = phrase_plain (variable_name (Some (a_field c t))) o h
list_plain p w (Some a_label) o h = phrase_plain (variable_name (Some a_label)) o h
list_plain p w (Some a_control) o h = phrase_plain (variable_name (Some a_control)) o h
list_plain p w (Some (a_standard s)) o h = phrase_plain (variable_name (Some (a_standard s))) o h

-- an assignment that has a type is a statement
abbrev OnlyStatement : Verdict → Type 0
OnlyStatement v = plain (setting_part (type_of v)) ≡ phrase_part false (type_of v)

part_only : (g : Option Gives) (row : Gives → Verdict) → ((h : Gives) → OnlyStatement (row h)) → OnlyStatement (part g row)
part_only None row k = refl
part_only (Some h) row k = k h

unless_only : (b : Bool) (n : ℕ) (p : Place) → OnlyStatement (unless b n p (Good Statement))
unless_only true n p = refl
unless_only false n p = refl

value_only : (p : Place) (g : Gives) (row : ValueType → Verdict) → ((t : ValueType) → OnlyStatement (row t)) → OnlyStatement (value p g row)
value_only p Statement row k = refl
value_only p (Simple t) row k = k t

assign_only : (p : Place) (left : Left) (l r : Gives) → OnlyStatement (assign_row p left l r)
assign_only p control_left l r = refl
assign_only p no_variable_left l r = refl
assign_only p variable_left l r = value_only p r (λ u. value p l (λ t. unless (fits u t) 37 p (Good Statement))) (λ u. value_only p l (λ t. unless (fits u t) 37 p (Good Statement)) (λ t. unless_only (fits u t) 37 p))

setting_plain : (path : Scopes) (p f : Place) (a b : tree.Phrase) → IsPlain (setting_given (typed_phrase path (tree.At p f (tree.Assign a b))))
setting_plain path p f a b =
    let x : Out = typed_phrase path a in
    let y : Out = typed_phrase path b in
    let row : Gives → Gives → Verdict = assign_row p (left_of path a) in
    part_only (gives x) (λ l. part (gives y) (λ r. part (right_end y.node) (row l))) (λ l. part_only (gives y) (λ r. part (right_end y.node) (row l)) (λ r. part_only (right_end y.node) (row l) (λ e. assign_only p (left_of path a) l e)))

assign_plain : (path : Scopes) (p f : Place) (a b : tree.Phrase) (t : Bool) → let o = typed_phrase path (tree.At p f (tree.Assign a b)) in IsPlain (elim t as (λ _. PartOut) [ true ↦ setting_given o | false ↦ phrase_given false o ])
assign_plain path p f a b true = setting_plain path p f a b
assign_plain path p f a b false = phrase_plain false (typed_phrase path (tree.At p f (tree.Assign a b))) refl

given_plain : (path : Scopes) (w : Wanted) (a : tree.Phrase) → IsPlain (given path w a (typed_phrase path a))
given_plain path w (tree.At p f (tree.Named x tree.no_lists)) = alone_plain w p (declared path x) (typed_phrase path (tree.At p f (tree.Named x tree.no_lists))) refl refl
given_plain path w (tree.At p f (tree.Named x (tree.list_and (tree.OfActuals q actuals) tree.no_lists))) = list_plain p w (meaning_of (declared path x)) (typed_phrase path (tree.At p f (tree.Named x (tree.list_and (tree.OfActuals q actuals) tree.no_lists)))) refl
given_plain path w (tree.At p f (tree.Named x (tree.list_and (tree.OfActuals q actuals) (tree.list_and l lists)))) =
    phrase_plain (variable_name (meaning_of (declared path x))) (typed_phrase path (tree.At p f (tree.Named x (tree.list_and (tree.OfActuals q actuals) (tree.list_and l lists))))) refl
given_plain path w (tree.At p f (tree.Named x (tree.list_and (tree.OfPart q a n) lists))) = phrase_plain (variable_name (meaning_of (declared path x))) (typed_phrase path (tree.At p f (tree.Named x (tree.list_and (tree.OfPart q a n) lists)))) refl
given_plain path w (tree.At p f tree.Empty) = phrase_plain false (typed_phrase path (tree.At p f tree.Empty)) refl
given_plain path w (tree.At p f tree.Null) = phrase_plain false (typed_phrase path (tree.At p f tree.Null)) refl
given_plain path w (tree.At p f (tree.Number n)) = phrase_plain false (typed_phrase path (tree.At p f (tree.Number n))) refl
given_plain path w (tree.At p f (tree.Truth b)) = phrase_plain false (typed_phrase path (tree.At p f (tree.Truth b))) refl
given_plain path w (tree.At p f (tree.BitsLit b)) = phrase_plain false (typed_phrase path (tree.At p f (tree.BitsLit b))) refl
given_plain path w (tree.At p f (tree.Quoted s)) = phrase_plain false (typed_phrase path (tree.At p f (tree.Quoted s))) refl
given_plain path w (tree.At p f (tree.Negated a)) = phrase_plain false (typed_phrase path (tree.At p f (tree.Negated a))) refl
given_plain path w (tree.At p f (tree.Abs a)) = phrase_plain false (typed_phrase path (tree.At p f (tree.Abs a))) refl
given_plain path w (tree.At p f (tree.Signed minus a)) = phrase_plain false (typed_phrase path (tree.At p f (tree.Signed minus a))) refl
given_plain path w (tree.At p f (tree.Chain a links)) = phrase_plain false (typed_phrase path (tree.At p f (tree.Chain a links))) refl
given_plain path w (tree.At p f (tree.Relation op a b)) = phrase_plain false (typed_phrase path (tree.At p f (tree.Relation op a b))) refl
given_plain path w (tree.At p f (tree.IsClass a x q)) = phrase_plain false (typed_phrase path (tree.At p f (tree.IsClass a x q))) refl
given_plain path w (tree.At p f (tree.Assign a b)) = assign_plain path p f a b (is_setting path w a b)
given_plain path w (tree.At p f (tree.IfThen c a tree.Missing)) = phrase_plain false (typed_phrase path (tree.At p f (tree.IfThen c a tree.Missing))) refl
given_plain path w (tree.At p f (tree.IfThen c a (tree.There b))) = phrase_plain false (typed_phrase path (tree.At p f (tree.IfThen c a (tree.There b)))) refl
given_plain path w (tree.At p f (tree.CaseValue c values)) = phrase_plain false (typed_phrase path (tree.At p f (tree.CaseValue c values))) refl
given_plain path w (tree.At p f (tree.CaseDo c parts)) = phrase_plain false (typed_phrase path (tree.At p f (tree.CaseDo c parts))) refl
given_plain path w (tree.At p f (tree.ForStep x a tree.Missing b body)) = phrase_plain false (typed_phrase path (tree.At p f (tree.ForStep x a tree.Missing b body))) refl
given_plain path w (tree.At p f (tree.ForStep x a (tree.There step) b body)) = phrase_plain false (typed_phrase path (tree.At p f (tree.ForStep x a (tree.There step) b body))) refl
given_plain path w (tree.At p f (tree.ForList x values body)) = phrase_plain false (typed_phrase path (tree.At p f (tree.ForList x values body))) refl
given_plain path w (tree.At p f (tree.WhileDo c a)) = phrase_plain false (typed_phrase path (tree.At p f (tree.WhileDo c a))) refl
given_plain path w (tree.At p f (tree.Goto x)) = phrase_plain false (typed_phrase path (tree.At p f (tree.Goto x))) refl
given_plain path w (tree.At p f (tree.Assert c)) = phrase_plain false (typed_phrase path (tree.At p f (tree.Assert c))) refl
given_plain path w (tree.At p f (tree.Block decls items)) = phrase_plain false (typed_phrase path (tree.At p f (tree.Block decls items))) refl

pub parts_plain : (path : Scopes) (r : Reading) (actuals : tree.Actuals) → map plain (typed_parts path r actuals).parts ≡ parts_of_actuals (typed_parts path r actuals).actuals
parts_plain path r tree.no_actuals = refl
parts_plain path r (tree.actual_and (tree.Star q) actuals) = ap (λ (ps : List Part). a_star ∷ ps) (parts_plain path (behind r) actuals)
parts_plain path r (tree.actual_and (tree.Given a) actuals) =
    let rest : typed.Actuals = (typed_parts path (behind r) actuals).actuals in
    ap (λ (ps : List Part). plain (given path (wanted r) a (typed_phrase path a)).part ∷ ps) (parts_plain path (behind r) actuals) ∙ ap (λ (p : Part). p ∷ parts_of_actuals rest) (given_plain path (wanted r) a)

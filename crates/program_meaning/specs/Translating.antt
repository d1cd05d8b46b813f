-- The phrase that is executed for a typed tree: each name is read by what is declared there.
use Rattle.std.specs.Prelude.{ℕ, ◌+◌, suc, ℤ, pos, negsuc, List, [], ◌∷◌, ◌++◌, Option, Some, None, Bool, true, false}
use Rattle.value_ops.specs.declared.places.Place.{Place}
use Rattle.value_ops.specs.declared.values.Value.TheVariants as value
use Rattle.algolw_tree.specs.declared.phrases.Op.{Op}
use Rattle.algolw_tree.specs.declared.phrases.Op.TheVariants as op
use Rattle.algolw_tree.specs.declared.programs.NameInfo.{NameInfo}
use Rattle.algolw_tree.specs.declared.standard.Standard.{Standard}
use Rattle.algolw_tree.specs.declared.standard.Standard.TheVariants as standard
use Rattle.algolw_tree.specs.declared.standard.UnaryOp.TheVariants as unary
use Rattle.algolw_typing.specs.Names.{Scope}
use Rattle.algolw_typing.specs.Types.{ValueType, Gives, Statement, Simple, Integer, Logical, Str, is_place}
use Rattle.algolw_typing.specs.Meanings.{Meaning, a_standard, FormalType, by_name, by_value, by_result, by_value_result, for_array, for_procedure}
use Rattle.algolw_typing.specs.Scopes as scopes
use Rattle.algolw_typing.specs.Scopes.{standard_scope, formal_type}
use Rattle.algolw_typing.specs.Typed as typed
use Rattle.algolw_typing.specs.Typed.{At}
use Rattle.algolw_typing.specs.Programs.{TypedProgram}
use Rattle.program_meaning.specs.Phrases as phrase
use Rattle.program_meaning.specs.Widths.{variable_of}
use Rattle.program_meaning.specs.Phrases.{Phrase, Role, placed, sets, Constant, Named, Variable, Unary, Binary, Element, Field, Part, Record, RecordAlone, IfThen, Block, Call, Phrases, no_phrases, phrase_and, Targets, no_targets, target_and, Subscripts, no_subscripts, star_and, subscript_and, Actuals, no_actuals, actual_and, Actual, Given, Alone, Subarray, Items, no_items, item_and, Bounds, no_bounds, bound_and, Decls, no_decls, variables_and, arrays_and, procedure_and, Name, Formal}

-- what a name stands for
pub data Declared : Type 0 where
  a_variable : ValueType → Declared
  a_control : Declared
  an_array : ValueType → Declared
  a_procedure : Option ValueType → Declared
  a_procedure_formal : Option ValueType → Declared
  a_class : (fields : List ValueType) → Declared
  a_field : (class : Place) → (position : ℕ) → ValueType → Declared
  a_standard_name : Standard → Declared
  unknown : Declared

pub record Known : Type 0 where
  pub place : Place
  pub is : Declared

-- how names are written, and what they stand for
pub record Context : Type 0 where
  pub names : List NameInfo
  pub known : List Known

abbrev pub text_at : List NameInfo → Place → List ℕ
text_at [] x = []
text_at (i ∷ infos) x = elim (is_place i.place x) [ true ↦ i.name | false ↦ text_at infos x ]

abbrev pub name_at : Context → Place → Name
name_at c x = record { place = x; text = text_at c.names x }

abbrev pub names_at : Context → List typed.Placed → List Name
names_at c [] = []
names_at c (x ∷ xs) = name_at c x.0 ∷ names_at c xs

abbrev pub declared_at : List Known → Place → Declared
declared_at [] x = unknown
declared_at (k ∷ known) x = elim (is_place k.place x) [ true ↦ k.is | false ↦ declared_at known x ]

abbrev pub with_known : Context → List Known → Context
with_known c known = record { names = c.names; known = known ++ c.known }

-- ---- what declarations declare

abbrev pub all_known : Declared → List typed.Placed → List Known → List Known
all_known d [] known = known
all_known d (x ∷ xs) known = record { place = x.0; is = d } ∷ all_known d xs known

abbrev pub same_types : ValueType → List typed.Placed → List ValueType → List ValueType
same_types t [] types = types
same_types t (x ∷ xs) types = t ∷ same_types t xs types

abbrev pub field_types : List typed.Group → List ValueType
field_types [] = []
field_types (g ∷ groups) = same_types g.type g.names (field_types groups)

-- fields of a type, from this position on
abbrev pub group_known : Place → ℕ → ValueType → List typed.Placed → List Known → List Known
group_known class n t [] known = known
group_known class n t (x ∷ xs) known = record { place = x.0; is = a_field class n t } ∷ group_known class (n + 1) t xs known

abbrev pub count : List typed.Placed → ℕ
count [] = 0
count (x ∷ xs) = suc (count xs)

abbrev pub fields_known : Place → ℕ → List typed.Group → List Known
fields_known class n [] = []
fields_known class n (g ∷ groups) = group_known class n g.type g.names (fields_known class (n + count g.names) groups)

abbrev pub decl_known : typed.Decl → List Known → List Known
decl_known (typed.Simple t xs) known = all_known (a_variable t) xs known
decl_known (typed.Array t xs pairs) known = all_known (an_array t) xs known
decl_known (typed.Proc p result x formals body) known = record { place = x.0; is = a_procedure result } ∷ known
decl_known (typed.Class x groups) known = record { place = x.0; is = a_class (field_types groups) } ∷ fields_known x.0 0 groups ++ known

abbrev pub decls_known : typed.Decls → List Known
decls_known typed.no_decls = []
decls_known (typed.decl_and d decls) = decl_known d (decls_known decls)

-- what a formal is in the body
abbrev pub formal_declared : FormalType → Declared
formal_declared (by_name t) = a_variable t
formal_declared (by_value t) = a_variable t
formal_declared (by_result t) = a_variable t
formal_declared (by_value_result t) = a_variable t
formal_declared (for_array t n) = an_array t
formal_declared (for_procedure result) = a_procedure_formal result

abbrev pub type_of_formal : typed.Formal → FormalType
type_of_formal f = formal_type f.mode f.dimensions f.type

abbrev pub formals_known : List typed.Formal → List Known
formals_known [] = []
formals_known (f ∷ formals) = all_known (formal_declared (type_of_formal f)) f.names (formals_known formals)

abbrev pub each_formal : Context → FormalType → List typed.Placed → List Formal → List Formal
each_formal c t [] formals = formals
each_formal c t (x ∷ xs) formals = record { name = name_at c x.0; is = t } ∷ each_formal c t xs formals

abbrev pub formals_of : Context → List typed.Formal → List Formal
formals_of c [] = []
formals_of c (f ∷ formals) = each_formal c (type_of_formal f) f.names (formals_of c formals)

-- the standard names, by their places
abbrev pub standard_of : Option Meaning → Declared
standard_of (Some (a_standard s)) = a_standard_name s
standard_of _ = unknown

abbrev pub standard_known : Scope scopes.Known → List Known
standard_known [] = []
standard_known (e ∷ scope) = record { place = e.place; is = standard_of e.is.means } ∷ standard_known scope

-- ---- types

abbrev pub type_given : Option Gives → Option ValueType
type_given (Some (Simple t)) = Some t
type_given _ = None

abbrev pub value_type : Option Gives → ValueType
value_type (Some (Simple t)) = t
value_type _ = Integer

abbrev pub is_logical_given : Option Gives → Bool
is_logical_given (Some (Simple Logical)) = true
is_logical_given _ = false

abbrev pub length_of : ValueType → ℕ
length_of (Str m) = m
length_of t = 0

abbrev pub length_given : Option ValueType → ℕ
length_given None = 0
length_given (Some t) = length_of t

abbrev pub written : ℤ → ℕ
written (pos n) = n
written (negsuc n) = 0

abbrev pub statement_at : Place → Option Place → Place
statement_at first None = first
statement_at first (Some st) = st

abbrev pub is_variable : Declared → Bool
is_variable (a_variable t) = true
is_variable (an_array t) = true
is_variable (a_field class n t) = true
is_variable (a_standard_name (standard.Variable width)) = true
is_variable _ = false

-- a name of a variable, an array or a field, with whatever lists; the phrase has a type
abbrev pub is_variable_node : Context → typed.Node → Bool
is_variable_node c (At p first g st (typed.Named x lists)) = is_variable (declared_at c.known x)
is_variable_node c _ = false

-- what a part of WRITE is for, by what it gives and is: a statement there sets a width
abbrev pub width_role : Declared → Role
width_role (a_standard_name (standard.Variable width)) = sets width
width_role d = placed

abbrev pub left_role : List Known → typed.Node → Role
left_role known (At p first g st (typed.Named x lists)) = width_role (declared_at known x)
left_role known a = placed

abbrev pub kind_role : List Known → Option Gives → typed.Kind → Role
kind_role known (Some Statement) (typed.Assign a b) = left_role known a
kind_role known g k = placed

abbrev pub role_of : List Known → typed.Node → Role
role_of known (At p first g st k) = kind_role known g k

abbrev pub roles_of : List Known → typed.Actuals → List Role
roles_of known typed.no_actuals = []
roles_of known (typed.actual_and (typed.Star q) rest) = roles_of known rest
roles_of known (typed.actual_and (typed.Given a) rest) = role_of known a ∷ roles_of known rest

-- the value of a part: of a setting it is the right part
abbrev pub value_part : Role → Phrase → Phrase
value_part (sets width) (phrase.Assign st t a b) = b
value_part role a = a

-- ---- operators

-- AND and OR of LOGICAL are IFs
abbrev pub linked : Bool → Op → Phrase → Phrase → Phrase
linked true op.And a b = IfThen None None a b (Constant (value.Logical false))
linked true op.Or a b = IfThen None None a (Constant (value.Logical true)) b
linked is_logical o a b = Binary o a b

abbrev pub negated : Bool → Phrase → Phrase
negated true a = Unary unary.Not a
negated false a = Unary unary.Complement a

abbrev pub signed : Bool → Phrase → Phrase
signed true a = Unary unary.Minus a
signed false a = a

abbrev pub first_of : Phrases → Phrase
first_of no_phrases = phrase.Empty
first_of (phrase_and a rest) = a

abbrev pub places_of : List typed.Placed → List Place
places_of [] = []
places_of (x ∷ xs) = x.0 ∷ places_of xs

abbrev pub number_of : List ValueType → ℕ
number_of [] = 0
number_of (t ∷ ts) = suc (number_of ts)

abbrev mutual
  pub phrase_of : Context → typed.Node → Phrase
  phrase_of c (At p first g st k) = kind_of c p first g st k

  pub kind_of : Context → (place first : Place) → Option Gives → (statement : Option Place) → typed.Kind → Phrase
  kind_of c p first g st typed.Empty = phrase.Empty
  kind_of c p first g st typed.Null = Constant (value.Reference None)
  kind_of c p first g st (typed.Number n) = Constant (value.Integer n)
  kind_of c p first g st (typed.Truth b) = Constant (value.Logical b)
  kind_of c p first g st (typed.BitsLit b) = Constant (value.Bits b)
  kind_of c p first g st (typed.Quoted text) = Constant (value.Str text)
  kind_of c p first g st (typed.Goto x) = phrase.Goto (statement_at first st) (Named x)
  kind_of c p first g st (typed.Named x lists) = named_of c p first st x (declared_at c.known x) lists
  kind_of c p first g st (typed.Negated a) = negated (is_logical_given g) (phrase_of c a)
  kind_of c p first g st (typed.Abs a) = Unary unary.Absolute (phrase_of c a)
  kind_of c p first g st (typed.Signed minus a) = signed minus (phrase_of c a)
  kind_of c p first g st (typed.Chain a links) = chain_of c (is_logical_given g) (phrase_of c a) links
  kind_of c p first g st (typed.Relation o a b) = phrase.Relation o (phrase_of c a) (phrase_of c b)
  kind_of c p first g st (typed.IsClass a class q) = phrase.IsClass (phrase_of c a) class
  kind_of c p first g st (typed.Assign a b) = phrase.Assign st (value_type (typed.gives a)) (phrase_of c a) (phrase_of c b)
  kind_of c p first g st (typed.IfThen a b otherwise) = IfThen st (type_given g) (phrase_of c a) (phrase_of c b) (perhaps_of c phrase.Empty otherwise)
  kind_of c p first g st (typed.CaseValue a parts) = phrase.Case st (type_given g) (phrase_of c a) (phrases_of c parts)
  kind_of c p first g st (typed.CaseDo a parts) = phrase.Case st (type_given g) (phrase_of c a) (phrases_of c parts)
  kind_of c p first g st (typed.ForStep x a step b body) = phrase.ForStep (statement_at first st) (name_at c x) (phrase_of c a) (perhaps_of c (Constant (value.Integer (pos 1))) step) (phrase_of c b) (phrase_of (with_known c (record { place = x; is = a_control } ∷ [])) body)
  kind_of c p first g st (typed.ForList x values body) = phrase.ForList (statement_at first st) (name_at c x) (phrases_of c values) (phrase_of (with_known c (record { place = x; is = a_control } ∷ [])) body)
  kind_of c p first g st (typed.WhileDo a body) = phrase.WhileDo (statement_at first st) (phrase_of c a) (phrase_of c body)
  kind_of c p first g st (typed.Assert a) = phrase.Assert (statement_at first st) (phrase_of c a)
  kind_of c p first g st (typed.Block decls items) = Block st p (decls_of (with_known c (decls_known decls)) decls) (items_of (with_known c (decls_known decls)) items)

  -- where nothing is written, this
  pub perhaps_of : Context → Phrase → typed.Perhaps → Phrase
  perhaps_of c a typed.Missing = a
  perhaps_of c a (typed.There b) = phrase_of c b

  pub phrases_of : Context → typed.Nodes → Phrases
  phrases_of c typed.no_nodes = no_phrases
  phrases_of c (typed.node_and a rest) = phrase_and (phrase_of c a) (phrases_of c rest)

  pub chain_of : Context → Bool → Phrase → typed.Links → Phrase
  chain_of c is_logical a typed.no_links = a
  chain_of c is_logical a (typed.link_and (typed.Linked o q b) rest) = chain_of c is_logical (linked is_logical o a (phrase_of c b)) rest

  -- a name and the lists behind it, by what it stands for
  pub named_of : Context → (place first : Place) → (statement : Option Place) → Place → Declared → typed.Lists → Phrase
  named_of c p first st x (a_variable t) (typed.list_and (typed.OfPart q start n) rest) = parts_of c (written n) (Part (length_of t) (written n) (Named x) (phrase_of c start)) rest
  named_of c p first st x (an_array t) (typed.list_and (typed.OfActuals q subscripts) rest) = parts_of c (length_of t) (Element (Named x) (given_of c subscripts)) rest
  named_of c p first st x (a_procedure result) (typed.list_and (typed.OfActuals q actuals) rest) = parts_of c (length_given result) (Call st false p (Named x) (actuals_of c actuals)) rest
  named_of c p first st x (a_procedure result) (typed.list_and (typed.OfPart q start n) rest) = parts_of c (written n) (Part (length_given result) (written n) (Call st false p (Named x) no_actuals) (phrase_of c start)) rest
  named_of c p first st x (a_procedure result) typed.no_lists = Call st false p (Named x) no_actuals
  named_of c p first st x (a_procedure_formal result) (typed.list_and (typed.OfActuals q actuals) rest) = parts_of c (length_given result) (Call st true p (Named x) (actuals_of c actuals)) rest
  named_of c p first st x (a_procedure_formal result) (typed.list_and (typed.OfPart q start n) rest) = parts_of c (written n) (Part (length_given result) (written n) (Call st true p (Named x) no_actuals) (phrase_of c start)) rest
  named_of c p first st x (a_procedure_formal result) typed.no_lists = Call st true p (Named x) no_actuals
  named_of c p first st x (a_class types) (typed.list_and (typed.OfActuals q values) rest) = Record (name_at c x) types (given_of c values)
  named_of c p first st x (a_class types) lists = RecordAlone (name_at c x) (number_of types)
  named_of c p first st x (a_field class n t) (typed.list_and (typed.OfActuals q given) rest) = parts_of c (length_of t) (Field class n (first_of (given_of c given))) rest
  named_of c p first st x (a_standard_name (standard.Function op)) (typed.list_and (typed.OfActuals q given) rest) = parts_of c 1 (Unary op (first_of (given_of c given))) rest
  named_of c p first st x (a_standard_name (standard.Write on)) (typed.list_and (typed.OfActuals q values) rest) = phrase.Write (statement_at first st) on (roles_of c.known values) (written_of c values)
  named_of c p first st x (a_standard_name (standard.Read on)) (typed.list_and (typed.OfActuals q targets) rest) = phrase.Read (statement_at first st) on (targets_of c targets)
  named_of c p first st x (a_standard_name standard.ReadCard) (typed.list_and (typed.OfActuals q targets) rest) = phrase.ReadCard (statement_at first st) (targets_of c targets)
  named_of c p first st x (a_standard_name standard.IoControl) (typed.list_and (typed.OfActuals q given) rest) = phrase.IoControl (statement_at first st) (first_of (given_of c given))
  named_of c p first st x (a_standard_name standard.MaxInteger) lists = Constant (value.Integer (pos 2147483647))
  named_of c p first st x (a_standard_name (standard.Variable width)) lists = Variable (variable_of width)
  named_of c p first st x d lists = Named x

  -- substring lists behind a string of m characters
  pub parts_of : Context → (m : ℕ) → Phrase → typed.Lists → Phrase
  parts_of c m a (typed.list_and (typed.OfPart q start n) rest) = parts_of c (written n) (Part m (written n) a (phrase_of c start)) rest
  parts_of c m a lists = a

  -- the phrases of a list
  pub given_of : Context → typed.Actuals → Phrases
  given_of c typed.no_actuals = no_phrases
  given_of c (typed.actual_and (typed.Star q) rest) = given_of c rest
  given_of c (typed.actual_and (typed.Given a) rest) = phrase_and (phrase_of c a) (given_of c rest)

  -- the values of the parts of WRITE
  pub written_of : Context → typed.Actuals → Phrases
  written_of c typed.no_actuals = no_phrases
  written_of c (typed.actual_and (typed.Star q) rest) = written_of c rest
  written_of c (typed.actual_and (typed.Given a) rest) = phrase_and (value_part (role_of c.known a) (phrase_of c a)) (written_of c rest)

  pub targets_of : Context → typed.Actuals → Targets
  targets_of c typed.no_actuals = no_targets
  targets_of c (typed.actual_and (typed.Star q) rest) = targets_of c rest
  targets_of c (typed.actual_and (typed.Given a) rest) = target_and (value_type (typed.gives a)) (phrase_of c a) (targets_of c rest)

  pub subscripts_of : Context → typed.Actuals → Subscripts
  subscripts_of c typed.no_actuals = no_subscripts
  subscripts_of c (typed.actual_and (typed.Star q) rest) = star_and (subscripts_of c rest)
  subscripts_of c (typed.actual_and (typed.Given a) rest) = subscript_and (phrase_of c a) (subscripts_of c rest)

  pub actuals_of : Context → typed.Actuals → Actuals
  actuals_of c typed.no_actuals = no_actuals
  actuals_of c (typed.actual_and (typed.Star q) rest) = actuals_of c rest
  actuals_of c (typed.actual_and (typed.Given a) rest) = actual_and (actual_of c a) (actuals_of c rest)

  -- an actual without type stands for an array or a procedure
  pub actual_of : Context → typed.Node → Actual
  actual_of c (At p first (Some g) st k) = Given (is_variable_node c (At p first (Some g) st k)) g first (kind_of c p first (Some g) st k)
  actual_of c (At p first None st (typed.Named x (typed.list_and (typed.OfActuals q subscripts) rest))) = Subarray (Named x) (subscripts_of c subscripts)
  actual_of c (At p first None st (typed.Named x lists)) = Alone p (Named x)
  actual_of c (At p first None st k) = Given false Statement first phrase.Empty

  pub items_of : Context → typed.Items → Items
  items_of c typed.no_items = no_items
  items_of c (typed.item_and (typed.Labelled labels a) rest) = item_and (places_of labels) (phrase_of c a) (items_of c rest)

  pub bounds_of : Context → typed.Bounds → Bounds
  bounds_of c typed.no_bounds = no_bounds
  bounds_of c (typed.bound_and (typed.Between q a b) rest) = bound_and (phrase_of c a) (phrase_of c b) (bounds_of c rest)

  pub decls_of : Context → typed.Decls → Decls
  decls_of c typed.no_decls = no_decls
  decls_of c (typed.decl_and d rest) = decl_of c d (decls_of c rest)

  -- a declaration in front of the others; a record class does nothing when a program runs
  pub decl_of : Context → typed.Decl → Decls → Decls
  decl_of c (typed.Simple t xs) rest = variables_and (names_at c xs) rest
  decl_of c (typed.Array t xs pairs) rest = arrays_and t (names_at c xs) (bounds_of c pairs) rest
  decl_of c (typed.Proc p result x formals body) rest = procedure_and (name_at c x.0) result (formals_of c formals) (phrase_of (with_known c (formals_known formals)) body) rest
  decl_of c (typed.Class x groups) rest = rest

-- the phrase of a program
abbrev pub program_phrase : TypedProgram → Phrase
program_phrase p = phrase_of (record { names = p.names; known = standard_known standard_scope }) p.root

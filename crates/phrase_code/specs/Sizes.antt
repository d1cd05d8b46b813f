-- How many instructions the code of a phrase has, by what is known of the names in it.
use Rattle.std.specs.Prelude.{ℕ, ◌+◌, List, [], ◌∷◌, length, Option, Some, None, Bool, true, false}
use Rattle.value_ops.specs.declared.places.Place.{Place}
use Rattle.algolw_typing.specs.Types.{ValueType, Gives, Statement, Simple, is_place}
use Rattle.algolw_typing.specs.Meanings.{FormalType, by_name, by_value, by_result, by_value_result, for_array, for_procedure}
use Rattle.program_meaning.specs.Phrases.{Phrase, Empty, Constant, Named, Variable, Array, Label, Procedure, Copied, Unary, Binary, Relation, IsClass, Element, Field, Part, Record, RecordAlone, IfThen, Case, Block, Call, Assign, WhileDo, ForStep, ForList, Goto, Assert, Write, Read, ReadCard, IoControl, Phrases, no_phrases, phrase_and, Targets, no_targets, target_and, Subscripts, no_subscripts, star_and, subscript_and, Actuals, no_actuals, actual_and, Actual, Given, Alone, Subarray, Items, no_items, item_and, Bounds, no_bounds, bound_and, Decls, no_decls, variables_and, arrays_and, procedure_and, Name, Formal}

-- ---- what is known of names

-- a variable stands in a cell of its own, and so does a control name; an array's cell, a copied actual's and a procedure formal's say what they are
pub data Kind : Type 0 where
  a_variable : Kind
  an_array : Kind
  a_name_formal : Kind
  a_procedure_formal : Kind
  a_procedure : List Formal → Kind
  a_label : Kind

pub record Known : Type 0 where
  pub place : Place
  pub kind : Kind

abbrev pub kind_at : List Known → Place → Option Kind
kind_at [] x = None
kind_at (k ∷ known) x = elim (is_place k.place x) [ true ↦ Some k.kind | false ↦ kind_at known x ]

abbrev pub kind_of_formal : FormalType → Kind
kind_of_formal (by_name t) = a_name_formal
kind_of_formal (by_value t) = a_variable
kind_of_formal (by_result t) = a_variable
kind_of_formal (by_value_result t) = a_variable
kind_of_formal (for_array t n) = an_array
kind_of_formal (for_procedure result) = a_procedure_formal

abbrev pub name_known : Kind → List Name → List Known → List Known
name_known kind [] known = known
name_known kind (x ∷ xs) known = record { place = x.place; kind = kind } ∷ name_known kind xs known

abbrev pub formals_known : List Formal → List Known → List Known
formals_known [] known = known
formals_known (f ∷ formals) known = record { place = f.name.place; kind = kind_of_formal f.is } ∷ formals_known formals known

abbrev pub labels_known : List Place → List Known → List Known
labels_known [] known = known
labels_known (x ∷ xs) known = record { place = x; kind = a_label } ∷ labels_known xs known

abbrev pub items_known : Items → List Known → List Known
items_known no_items known = known
items_known (item_and labels a rest) known = labels_known labels (items_known rest known)

abbrev pub decls_known : Decls → List Known → List Known
decls_known no_decls known = known
decls_known (variables_and names rest) known = name_known a_variable names (decls_known rest known)
decls_known (arrays_and t names pairs rest) known = name_known an_array names (decls_known rest known)
decls_known (procedure_and x result formals body rest) known = record { place = x.place; kind = a_procedure formals } ∷ decls_known rest known

-- the names of a block, in front of those round it
abbrev pub block_known : Decls → Items → List Known → List Known
block_known decls items known = decls_known decls (items_known items known)

abbrev pub control_known : Name → List Known → List Known
control_known x known = record { place = x.place; kind = a_variable } ∷ known

-- what a phrase of one name means
abbrev pub head_kind : List Known → Phrase → Option Kind
head_kind known (Named x) = kind_at known x
head_kind known a = None

-- ---- sizes

abbrev pub begin_size : Option Place → ℕ
begin_size None = 0
begin_size (Some st) = 1

abbrev pub make_size : Option ValueType → ℕ
make_size None = 0
make_size (Some t) = 1

-- behind a procedure's body: its value is made into its type and takes a cell
abbrev pub result_size : Option ValueType → ℕ
result_size None = 0
result_size (Some t) = 2

-- a name alone
abbrev pub named_size : Option Kind → ℕ
named_size (Some a_variable) = 1
named_size (Some a_name_formal) = 2
named_size (Some a_procedure_formal) = 2
named_size k = 1

-- a jump, which counts its own step
abbrev pub goto_size : Option Kind → ℕ
goto_size (Some a_label) = 1
goto_size k = 2

-- a text: its head, its code and its return
abbrev pub text_size : ℕ → ℕ
text_size n = n + 2

-- how a call is coded: of a declared procedure, in line; of anything that is compared first; or it is stuck
pub data CallKind : Type 0 where
  in_line : List Formal → CallKind
  through : CallKind
  stuck_call : CallKind

abbrev pub call_kind : Bool → Option Kind → CallKind
call_kind false (Some (a_procedure formals)) = in_line formals
call_kind true (Some (a_procedure formals)) = through
call_kind compares (Some a_label) = stuck_call
call_kind compares (Some kind) = through
call_kind compares None = stuck_call

-- an actual that is a phrase of size n, for its formal, in line
abbrev pub given_size : FormalType → ℕ → ℕ
given_size (by_value t) n = n + 2
given_size (by_result t) n = 1
given_size (by_value_result t) n = text_size n + 3
given_size (by_name t) n = text_size n + 2
given_size (for_procedure result) n = text_size n + 2
given_size (for_array t d) n = 1

-- one that is a name alone, whose call has size n
abbrev pub alone_size : FormalType → ℕ → ℕ
alone_size (by_value t) n = n + 2
alone_size (by_name t) n = text_size n + 2
alone_size (for_procedure result) n = 2
alone_size (for_array t d) n = 2
alone_size (by_result t) n = 1
alone_size (by_value_result t) n = 1

-- assigning back to a phrase of size n, in line
abbrev pub back_size : FormalType → Gives → ℕ → ℕ
back_size (by_result t) (Simple u) n = n + 1
back_size (by_value_result t) (Simple u) n = 3
back_size f g n = 0

-- the same through a procedure formal
abbrev pub place_back_size : Gives → ℕ
place_back_size (Simple t) = 3
place_back_size Statement = 0

-- the jumps behind a choice
abbrev pub jumps_size : Phrases → ℕ
jumps_size no_phrases = 0
jumps_size (phrase_and a rest) = 1 + jumps_size rest

-- the preparing of actuals through a procedure formal
abbrev pub prepares_size : Actuals → ℕ
prepares_size no_actuals = 0
prepares_size (actual_and a rest) = 3 + prepares_size rest

-- assigning back to an actual through a procedure formal
abbrev pub place_back_of_size : Actual → ℕ
place_back_of_size (Given v g first a) = place_back_size g
place_back_of_size (Alone p a) = 0
place_back_of_size (Subarray a given) = 0

-- and to all of them
abbrev pub place_backs_size : Actuals → ℕ
place_backs_size no_actuals = 0
place_backs_size (actual_and a rest) = place_back_of_size a + place_backs_size rest

-- a call by its kind, of which the actuals in line have this size for formals, and the texts of actuals that one
abbrev pub call_size : CallKind → (List Formal → ℕ) → (List Formal → ℕ) → ℕ → Actuals → ℕ
call_size (in_line formals) ready back texts given = ready formals + (1 + (back formals + 1))
call_size through ready back texts given = texts + (1 + (prepares_size given + (1 + (place_backs_size given + 1))))
call_size stuck_call ready back texts given = 1

-- a call of what stands for a name, without actuals, which compares
abbrev pub bare_call_size : Option Kind → ℕ
bare_call_size kind = call_size (call_kind true kind) (λ formals. 0) (λ formals. 0) 0 no_actuals

abbrev mutual
  pub size : List Known → Phrase → ℕ
  size known Empty = 1
  size known (Constant v) = 1
  size known (Named x) = named_size (kind_at known x)
  size known (Variable k) = 1
  size known (Array k given) = 1
  size known (Label l) = 1
  size known (Procedure k) = 1
  size known (Copied mark a) = 1
  size known (Unary op a) = size known a + 1
  size known (Binary op a b) = size known a + (1 + (size known b + 1))
  size known (Relation op a b) = size known a + (1 + (size known b + 1))
  size known (IsClass a class) = size known a + 1
  size known (Element a given) = each_size known given + 1
  size known (Field class position a) = size known a + 1
  size known (Part m n a start) = size known a + (1 + (size known start + 1))
  size known (Record class types values) = fields_size known values + 1
  size known (RecordAlone class n) = 1
  size known (IfThen st t c a b) = begin_size st + (size known c + (1 + (size known a + (1 + (size known b + make_size t)))))
  size known (Case st t c parts) = begin_size st + (size known c + (1 + (jumps_size parts + (parts_size known parts + make_size t))))
  size known (Block st p decls items) = begin_size st + (1 + (decls_size known (block_known decls items known) decls + (1 + (items_size (block_known decls items known) items + 1))))
  size known (Call st compares p a given) = begin_size st + call_size (call_kind compares (head_kind known a)) (λ formals. actuals_size known given formals) (λ formals. backs_size known given formals) (texts_size known given) given
  size known (Assign st t a b) = begin_size st + (size known a + (1 + (size known b + 1)))
  size known (WhileDo st c body) = 2 + (size known body + (size known c + 1))
  size known (ForStep st x a b c body) = 1 + (size known a + (1 + (size known b + (1 + (size known c + (2 + (1 + (size (control_known x known) body + 1))))))))
  size known (ForList st x values body) = 2 + (size (control_known x known) body + (1 + (list_size known values + 1)))
  size known (Goto st a) = goto_size (head_kind known a)
  size known (Assert st c) = 1 + (size known c + 1)
  size known (Write st first roles values) = 1 + writes_size known values
  size known (Read st next targets) = 1 + (targets_size known targets + 1)
  size known (ReadCard st targets) = 1 + (targets_size known targets + 1)
  size known (IoControl st a) = 1 + (size known a + 1)

  -- subscripts, each pushed
  pub each_size : List Known → Phrases → ℕ
  each_size known no_phrases = 0
  each_size known (phrase_and a rest) = size known a + (1 + each_size known rest)

  -- fields, each made into its type and pushed
  pub fields_size : List Known → Phrases → ℕ
  fields_size known no_phrases = 0
  fields_size known (phrase_and a rest) = size known a + (2 + fields_size known rest)

  -- the parts of a CASE, each with a jump to the end
  pub parts_size : List Known → Phrases → ℕ
  parts_size known no_phrases = 0
  parts_size known (phrase_and a rest) = size known a + (1 + parts_size known rest)

  -- the values of a FOR, each with its turn
  pub list_size : List Known → Phrases → ℕ
  list_size known no_phrases = 0
  list_size known (phrase_and a rest) = size known a + (1 + list_size known rest)

  -- its parts, and its end
  pub writes_size : List Known → Phrases → ℕ
  writes_size known no_phrases = 1
  writes_size known (phrase_and a rest) = size known a + (1 + writes_size known rest)

  pub targets_size : List Known → Targets → ℕ
  targets_size known no_targets = 0
  targets_size known (target_and t a rest) = size known a + (1 + targets_size known rest)

  pub items_size : List Known → Items → ℕ
  items_size known no_items = 1
  items_size known (item_and labels a no_items) = size known a
  items_size known (item_and labels a rest) = size known a + items_size known rest

  pub bounds_size : List Known → Bounds → ℕ
  bounds_size known no_bounds = 0
  bounds_size known (bound_and a b rest) = size known a + (1 + (size known b + (1 + bounds_size known rest)))

  -- the bounds stand outside the block, the bodies in it
  pub decls_size : (outside inside : List Known) → Decls → ℕ
  decls_size outside inside no_decls = 0
  decls_size outside inside (variables_and names rest) = length names + decls_size outside inside rest
  decls_size outside inside (arrays_and t names pairs rest) = bounds_size outside pairs + (1 + (length names + decls_size outside inside rest))
  decls_size outside inside (procedure_and x result formals body rest) = text_size (size (formals_known formals inside) body + result_size result) + decls_size outside inside rest

  pub subscripts_size : List Known → Subscripts → ℕ
  subscripts_size known no_subscripts = 0
  subscripts_size known (star_and rest) = subscripts_size known rest
  subscripts_size known (subscript_and a rest) = size known a + (1 + subscripts_size known rest)

  -- actuals in line, for their formals
  pub actuals_size : List Known → Actuals → List Formal → ℕ
  actuals_size known no_actuals [] = 0
  actuals_size known (actual_and a rest) (f ∷ formals) = actual_size known a f.is + actuals_size known rest formals
  actuals_size known given formals = 1

  pub actual_size : List Known → Actual → FormalType → ℕ
  actual_size known (Given v g first a) f = given_size f (size known a)
  actual_size known (Alone p a) f = alone_size f (bare_call_size (head_kind known a))
  actual_size known (Subarray a given) f = subscripts_size known given + 2

  pub backs_size : List Known → Actuals → List Formal → ℕ
  backs_size known (actual_and a rest) (f ∷ formals) = back_of_size known a f.is + backs_size known rest formals
  backs_size known given formals = 0

  pub back_of_size : List Known → Actual → FormalType → ℕ
  back_of_size known (Given v g first a) f = back_size f g (size known a)
  back_of_size known (Alone p a) f = 0
  back_of_size known (Subarray a given) f = 0

  -- the texts of actuals of a call through a procedure formal
  pub texts_size : List Known → Actuals → ℕ
  texts_size known no_actuals = 0
  texts_size known (actual_and a rest) = text_of_size known a + texts_size known rest

  pub text_of_size : List Known → Actual → ℕ
  text_of_size known (Given v g first a) = text_size (size known a)
  text_of_size known (Alone p a) = text_size (bare_call_size (head_kind known a))
  text_of_size known (Subarray a given) = text_size (subscripts_size known given + 1)

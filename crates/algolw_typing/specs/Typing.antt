-- The type of each phrase in the scopes in which it stands, and the faults: those of the rows of the table, and 30 to 33 of declarations and names.
use Rattle.std.specs.Prelude.{ℕ, ℤ, List, [], ◌∷◌, ◌++◌, length, Option, Some, None, Bool, true, false, ◌&&◌, not}
use Rattle.value_ops.specs.declared.places.Place.{Place}
use Rattle.value_ops.specs.declared.places.Diagnostic.{Diagnostic}
use Rattle.algolw_tree.specs.declared.phrases.Op.{Op}
use Rattle.algolw_tree.specs.declared.phrases.RelOp.{RelOp}
use Rattle.algolw_tree.specs.declared.standard.Standard.TheVariants as standard
use Rattle.algolw_tree.specs.Tree.{Placed}
use Rattle.algolw_tree.specs.Tree as tree
use Rattle.algolw_typing.specs.Names.{Entry, Scope, declared}
use Rattle.algolw_typing.specs.Types.{ValueType, Gives, Statement, Simple, Integer, Logical, Bits, Str, null_type, fits}
use Rattle.algolw_typing.specs.Verdicts.{Verdict, Good, Fault, Silent, type_of, fault_of, part, two_parts, all_parts, unless, value}
use Rattle.algolw_typing.specs.Rows.{bound_row, procedure_row, item_row, if_row, if_else_row, case_value_row, case_do_row, for_row, while_row, assert_row, link_row, negated_row, integer_row, relation_row, is_row}
use Rattle.algolw_typing.specs.Meanings.{Meaning, a_variable, an_array, a_procedure, a_label, a_control, a_standard, alone_row, base_row, part_row, Part, a_star, a_phrase, a_setting, typeless, all_read}
use Rattle.algolw_typing.specs.Actuals.{Reading, as_phrases, Wanted, phrase_wanted, wanted, behind, name_read, list_row, is_variable_name, phrase_part, is_subarray, subarray_row, subarray_part}
use Rattle.algolw_typing.specs.Scopes.{Known, Scopes, procedure_entry, entries, written, spec_faults, spec_type, result_faults, result_type, dimension_fault, good, formal_faults, formal_types, formal_scope, group_faults, class_entries, names_of_block, label_entries, twice, without_twice, bound_count, control_scope, class_fault}
use Rattle.algolw_typing.specs.Typed as typed

-- what is found of a phrase: the faults inside it, its own verdict, and its typed tree
pub record Out : Type 0 where
  pub inside : List Diagnostic
  pub verdict : Verdict
  pub node : typed.Node

abbrev pub faults : Out → List Diagnostic
faults o = o.inside ++ fault_of o.verdict

abbrev pub gives : Out → Option Gives
gives o = type_of o.verdict

-- A statement is counted at its first token.
abbrev pub counted : Place → Verdict → Option Place
counted f (Good Statement) = Some f
counted f v = None

abbrev pub out : List Diagnostic → Place → Place → Verdict → typed.Kind → Out
out inside p f v k = record { inside = inside; verdict = v; node = typed.At p f (type_of v) (counted f v) k }

-- a phrase without parts
abbrev pub leaf : Place → Place → ValueType → typed.Kind → Out
leaf p f t k = out [] p f (Good (Simple t)) k

-- An empty phrase is a statement, but none that is counted.
abbrev pub empty_out : Place → Place → Out
empty_out p f = record { inside = []; verdict = Good Statement; node = typed.At p f (Some Statement) None typed.Empty }

abbrev pub as_verdict : Option Gives → Verdict
as_verdict None = Silent
as_verdict (Some g) = Good g

-- a fault of the front of a chain, or a part of it without type, is that of the whole
abbrev pub onward : Verdict → (Gives → Verdict) → Verdict
onward (Good g) row = row g
onward (Fault n p) row = Fault n p
onward Silent row = Silent

-- ---- phrases with one part or more

abbrev pub negated_out : Place → Place → Out → Out
negated_out p f a = out (faults a) p f (part (gives a) (negated_row p)) (typed.Negated a.node)

abbrev pub absolute_out : Place → Place → Out → Out
absolute_out p f a = out (faults a) p f (part (gives a) (integer_row p)) (typed.Abs a.node)

abbrev pub signed_out : Place → Place → Bool → Out → Out
signed_out p f minus a = out (faults a) p f (part (gives a) (integer_row p)) (typed.Signed minus a.node)

abbrev pub relation_out : Place → Place → RelOp → Out → Out → Out
relation_out p f op a b = out (faults a ++ faults b) p f (two_parts (gives a) (gives b) (relation_row op p)) (typed.Relation op a.node b.node)

-- ---- what a name is

abbrev pub meaning_of : Option (Entry Known) → Option Meaning
meaning_of None = None
meaning_of (Some e) = e.is.means

-- The place of a declaration stands for it; where there is none, nothing is said of this place.
abbrev pub target : Option (Entry Known) → Place
target None = record { card = 0; column = 0 }
target (Some e) = e.place

-- The type that IS states: a class, whose declaration is good.
abbrev pub class_stated : List Diagnostic → Option Meaning → Verdict → Verdict
class_stated [] (Some m) v = v
class_stated faults m v = Silent

abbrev pub is_out : Place → Place → Placed → Option (Entry Known) → Out → Out
is_out p f x e a = out (faults a ++ class_fault x e) p f (class_stated (class_fault x e) (meaning_of e) (part (gives a) (is_row p))) (typed.IsClass a.node (target e) x.1)

-- GOTO, at the name: 30; 42 no label
abbrev pub goto_row : Place → Option (Entry Known) → Verdict
goto_row p None = Fault 30 p
goto_row p (Some e) = label_row p e.is.means where
  label_row : Place → Option Meaning → Verdict
  label_row p None = Silent
  label_row p (Some a_label) = Good Statement
  label_row p (Some m) = Fault 42 p

abbrev pub goto_out : Place → Place → Option (Entry Known) → Out
goto_out p f e = out [] p f (goto_row p e) (typed.Goto (target e))

-- ---- assignments

-- what stands at the left: a variable, a control name, or neither
pub data Left : Type 0 where
  variable_left : Left
  control_left : Left
  no_variable_left : Left

abbrev pub left_meaning : Meaning → Left
left_meaning a_control = control_left
left_meaning m = elim (is_variable_name m) [ true ↦ variable_left | false ↦ no_variable_left ]

abbrev pub left_name : Option Meaning → Left
left_name None = no_variable_left
left_name (Some m) = left_meaning m

abbrev pub left_of : Scopes → tree.Phrase → Left
left_of path (tree.At p f (tree.Named x lists)) = left_name (meaning_of (declared path x))
left_of path a = no_variable_left

-- the value at the right end of assignments
abbrev mutual
  pub right_end : typed.Node → Option Gives
  right_end (typed.At p f g s k) = right_end_of g k

  pub right_end_of : Option Gives → typed.Kind → Option Gives
  right_end_of g (typed.Assign a b) = right_end b
  right_end_of g k = g

-- `l := r`, at `:=`: 43 l is a control name or a substring of one; 38 no variable; 35 r a statement that is no assignment; 37 r's value, or the value that the assignment r assigns, doesn't fit l
abbrev pub assign_row : Place → Left → Gives → Gives → Verdict
assign_row p control_left l r = Fault 43 p
assign_row p no_variable_left l r = Fault 38 p
assign_row p variable_left l r = value p r (λ u. value p l (λ t. unless (fits u t) 37 p (Good Statement)))

-- a multiple assignment is one statement
abbrev pub uncounted : typed.Node → typed.Node
uncounted (typed.At p f g s (typed.Assign a b)) = typed.At p f g None (typed.Assign a b)
uncounted n = n

abbrev pub assign_out : Place → Place → Left → Out → Out → Out
assign_out p f left a b = out (faults a ++ faults b) p f (two_parts (gives a) (gives b) (λ l r. part (right_end b.node) (assign_row p left l))) (typed.Assign a.node (uncounted b.node))

-- ---- IF, CASE, FOR, WHILE, ASSERT

abbrev pub if_out : Place → Place → Out → Out → Out
if_out p f c a = out (faults c ++ faults a) p f (two_parts (gives c) (gives a) (if_row p)) (typed.IfThen c.node a.node typed.Missing)

abbrev pub if_else_out : Place → Place → Out → Out → Out → Out
if_else_out p f c a b = out (faults c ++ faults a ++ faults b) p f (part (gives c) (λ g. two_parts (gives a) (gives b) (if_else_row p g))) (typed.IfThen c.node a.node (typed.There b.node))

-- phrases in a row
pub record PhrasesOut : Type 0 where
  pub inside : List Diagnostic
  pub gives : List (Option Gives)
  pub nodes : typed.Nodes

abbrev pub no_outs : PhrasesOut
no_outs = record { inside = []; gives = []; nodes = typed.no_nodes }

abbrev pub out_and : Out → PhrasesOut → PhrasesOut
out_and o os = record { inside = faults o ++ os.inside; gives = gives o ∷ os.gives; nodes = typed.node_and o.node os.nodes }

abbrev pub case_value_out : Place → Place → Out → PhrasesOut → Out
case_value_out p f c os = out (faults c ++ os.inside) p f (part (gives c) (λ g. all_parts os.gives (case_value_row p g))) (typed.CaseValue c.node os.nodes)

abbrev pub case_do_out : Place → Place → Out → PhrasesOut → Out
case_do_out p f c os = out (faults c ++ os.inside) p f (part (gives c) (λ g. all_parts os.gives (case_do_row p g))) (typed.CaseDo c.node os.nodes)

abbrev pub for_verdict : Place → List (Option Gives) → Out → Verdict
for_verdict p parts body = all_parts parts (λ gs. part (gives body) (for_row p gs))

abbrev pub for_until_out : Place → Place → Out → Out → Out → Out
for_until_out p f a b body = out (faults a ++ faults b ++ faults body) p f (for_verdict p (gives a ∷ gives b ∷ []) body) (typed.ForStep p a.node typed.Missing b.node body.node)

abbrev pub for_step_out : Place → Place → Out → Out → Out → Out → Out
for_step_out p f a step b body = out (faults a ++ faults step ++ faults b ++ faults body) p f (for_verdict p (gives a ∷ gives step ∷ gives b ∷ []) body) (typed.ForStep p a.node (typed.There step.node) b.node body.node)

abbrev pub for_list_out : Place → Place → PhrasesOut → Out → Out
for_list_out p f os body = out (os.inside ++ faults body) p f (for_verdict p os.gives body) (typed.ForList p os.nodes body.node)

abbrev pub while_out : Place → Place → Out → Out → Out
while_out p f c a = out (faults c ++ faults a) p f (two_parts (gives c) (gives a) (while_row p)) (typed.WhileDo c.node a.node)

abbrev pub assert_out : Place → Place → Out → Out
assert_out p f c = out (faults c) p f (part (gives c) (assert_row p)) (typed.Assert c.node)

-- ---- chains of operators, from the left

pub record LinksOut : Type 0 where
  pub inside : List Diagnostic
  pub verdict : Verdict
  pub links : typed.Links

abbrev pub no_more : Verdict → LinksOut
no_more v = record { inside = []; verdict = v; links = typed.no_links }

abbrev pub link_verdict : Op → Place → Verdict → Out → Verdict
link_verdict op p v a = onward v (λ left. part (gives a) (link_row op p left))

abbrev pub link_out : Op → Place → Out → LinksOut → LinksOut
link_out op p a more = record { inside = faults a ++ more.inside; verdict = more.verdict; links = typed.link_and (typed.Linked op p a.node) more.links }

abbrev pub chain_out : Place → Place → Out → LinksOut → Out
chain_out p f a more = out (faults a ++ more.inside) p f more.verdict (typed.Chain a.node more.links)

-- ---- a name and the lists behind it

pub record ListsOut : Type 0 where
  pub inside : List Diagnostic
  pub verdict : Verdict
  pub lists : typed.Lists

abbrev pub listed : Verdict → ListsOut
listed v = record { inside = []; verdict = v; lists = typed.no_lists }

-- by the meaning of a name: 30 undeclared; a name whose declaration is faulty has no type and gives no fault
abbrev pub use_of : Place → Option (Entry Known) → (Meaning → (d : Place) → Verdict) → Verdict
use_of p None row = Fault 30 p
use_of p (Some e) row = by_meaning e.is.means e.place row where
  by_meaning : Option Meaning → Place → (Meaning → (d : Place) → Verdict) → Verdict
  by_meaning None d row = Silent
  by_meaning (Some m) d row = row m d

abbrev pub use_alone : Place → Option (Entry Known) → Verdict
use_alone p e = use_of p e (alone_row p)

abbrev pub use_as_base : Place → Option (Entry Known) → (start : Out) → Verdict
use_as_base p e start = use_of p e (λ m d. base_row p m (gives start))

abbrev pub use_with_list : Place → Option (Entry Known) → List Part → Verdict
use_with_list p e parts = use_of p e (λ m d. all_read parts (list_row p m d parts))

-- a substring list behind what has this verdict
abbrev pub part_verdict : Place → ℤ → Verdict → Out → Verdict
part_verdict q n v start = onward v (λ base. part (gives start) (part_row q (written n) base))

-- other list after a complete designator, at `(`: 41
abbrev pub list_verdict : Place → Verdict → List Part → Verdict
list_verdict q v parts = onward v (λ base. all_read parts (Fault 41 q))

-- the parts of a list
pub record PartsOut : Type 0 where
  pub inside : List Diagnostic
  pub parts : List Part
  pub actuals : typed.Actuals

abbrev pub no_parts : PartsOut
no_parts = record { inside = []; parts = []; actuals = typed.no_actuals }

abbrev pub star_and : Place → PartsOut → PartsOut
star_and q more = record { inside = more.inside; parts = a_star ∷ more.parts; actuals = typed.actual_and (typed.Star q) more.actuals }

pub record PartOut : Type 0 where
  pub inside : List Diagnostic
  pub part : Part
  pub node : typed.Node

abbrev pub given_and : PartOut → PartsOut → PartsOut
given_and g more = record { inside = g.inside ++ more.inside; parts = g.part ∷ more.parts; actuals = typed.actual_and (typed.Given g.node) more.actuals }

abbrev pub list_out : Place → PartsOut → ListsOut → ListsOut
list_out q parts more = record { inside = parts.inside ++ more.inside; verdict = more.verdict; lists = typed.list_and (typed.OfActuals q parts.actuals) more.lists }

abbrev pub part_out : Place → ℤ → Out → ListsOut → ListsOut
part_out q n a more = record { inside = faults a ++ more.inside; verdict = more.verdict; lists = typed.list_and (typed.OfPart q a.node n) more.lists }

abbrev pub named_out : Place → Place → Option (Entry Known) → ListsOut → Out
named_out p f e lists = out lists.inside p f lists.verdict (typed.Named (target e) lists.lists)

-- how the parts of a list behind a name are read
abbrev pub reading_of : Option (Entry Known) → Reading
reading_of None = as_phrases
reading_of (Some e) = e.is.reading

-- ---- actuals: what was found of a phrase, read as what is wanted

abbrev pub phrase_given : Bool → Out → PartOut
phrase_given is_variable o = record { inside = faults o; part = phrase_part is_variable (gives o); node = o.node }

abbrev pub variable_name : Option Meaning → Bool
variable_name None = false
variable_name (Some m) = is_variable_name m

-- an array's or a procedure's name alone that is read as such gives no fault, and has no type
abbrev pub read_as : Part → Out → PartOut
read_as (a_phrase v g) o = record { inside = faults o; part = a_phrase v g; node = o.node }
read_as typeless o = record { inside = faults o; part = typeless; node = o.node }
read_as part o = record { inside = o.inside; part = part; node = typed.untyped o.node }

-- a name alone; where its declaration is faulty it has no type, wherever it stands
abbrev pub name_given : Wanted → Option Meaning → Out → PartOut
name_given w None o = phrase_given false o
name_given w (Some m) o = read_as (name_read w m o.verdict) o

-- the parts of the first list behind a name, from its typed tree
abbrev pub part_of_node : typed.Node → Part
part_of_node n = phrase_part false (typed.gives n)

abbrev pub parts_of_actuals : typed.Actuals → List Part
parts_of_actuals typed.no_actuals = []
parts_of_actuals (typed.actual_and (typed.Star q) more) = a_star ∷ parts_of_actuals more
parts_of_actuals (typed.actual_and (typed.Given n) more) = part_of_node n ∷ parts_of_actuals more

abbrev pub parts_of_lists : typed.Lists → List Part
parts_of_lists (typed.list_and (typed.OfActuals q actuals) more) = parts_of_actuals actuals
parts_of_lists lists = []

abbrev pub parts_of_kind : typed.Kind → List Part
parts_of_kind (typed.Named d lists) = parts_of_lists lists
parts_of_kind k = []

abbrev pub subarray_given : Wanted → ValueType → List Part → Verdict → Out → PartOut
subarray_given w t parts v o = record { inside = o.inside ++ fault_of v; part = subarray_part w t parts v; node = typed.untyped o.node }

abbrev pub array_given : Place → Wanted → ValueType → ℕ → List Part → Out → PartOut
array_given p w t n parts o = elim (is_subarray w parts) [ true ↦ subarray_given w t parts (subarray_row p n parts) o | false ↦ phrase_given true o ]

abbrev pub list_given : Place → Wanted → Option Meaning → Out → PartOut
list_given p w (Some (an_array t n)) o = array_given p w t n (parts_of_kind (typed.kind o.node)) o
list_given p w m o = phrase_given (variable_name m) o

-- ---- settings: in a list of phrases, assignments to standard variables

abbrev pub is_width : Option Meaning → Bool
is_width (Some (a_standard (standard.Variable width))) = true
is_width m = false

abbrev pub is_assignment : tree.Phrase → Bool
is_assignment (tree.At p f (tree.Assign a b)) = true
is_assignment a = false

-- Its one left part is the name alone of a standard variable, and its right part is no assignment.
abbrev pub is_setting : Scopes → Wanted → (left right : tree.Phrase) → Bool
is_setting path phrase_wanted (tree.At p f (tree.Named x tree.no_lists)) b = is_width (meaning_of (declared path x)) && not (is_assignment b)
is_setting path w a b = false

abbrev pub setting_part : Option Gives → Part
setting_part None = typeless
setting_part (Some g) = a_setting

-- A setting is no statement that is counted.
abbrev pub setting_given : Out → PartOut
setting_given o = record { inside = faults o; part = setting_part (gives o); node = uncounted o.node }

-- A phrase in a list, of which this was found as a phrase.
abbrev pub given : Scopes → Wanted → tree.Phrase → Out → PartOut
given path w (tree.At p f (tree.Named x tree.no_lists)) o = name_given w (meaning_of (declared path x)) o
given path w (tree.At p f (tree.Named x (tree.list_and (tree.OfActuals q _) tree.no_lists))) o = list_given p w (meaning_of (declared path x)) o
given path w (tree.At p f (tree.Named x lists)) o = phrase_given (variable_name (meaning_of (declared path x))) o
given path w (tree.At p f (tree.Assign a b)) o = elim (is_setting path w a b) [ true ↦ setting_given o | false ↦ phrase_given false o ]
given path w a o = phrase_given false o

-- ---- blocks

pub record ItemsOut : Type 0 where
  pub inside : List Diagnostic
  pub verdict : Verdict
  pub items : typed.Items

abbrev pub no_more_items : Verdict → ItemsOut
no_more_items v = record { inside = []; verdict = v; items = typed.no_items }

abbrev pub declares_at : Placed → typed.Placed
declares_at x = (x.1, x.1)

abbrev pub declare_at : List Placed → List typed.Placed
declare_at [] = []
declare_at (x ∷ xs) = declares_at x ∷ declare_at xs

abbrev pub has_labels : List Placed → Bool
has_labels [] = false
has_labels (x ∷ xs) = true

abbrev pub is_last : tree.Items → Bool
is_last tree.no_items = true
is_last (tree.item_and i items) = false

abbrev pub first_token : tree.Phrase → Place
first_token (tree.At p f k) = f

abbrev pub item_verdict : tree.Items → List Placed → tree.Phrase → Out → Verdict
item_verdict behind labels a o = part (gives o) (item_row (is_last behind) (has_labels labels) (first_token a))

-- An item with a fault of its own or in it leaves its block without type; the block has the type of its last item.
abbrev pub then_item : Verdict → Verdict → Verdict
then_item (Good before) (Good g) = Good g
then_item before v = Silent

abbrev pub item_out : List Placed → Out → Verdict → ItemsOut → ItemsOut
item_out labels o v more = record { inside = faults o ++ fault_of v ++ more.inside; verdict = more.verdict; items = typed.item_and (typed.Labelled (declare_at labels) o.node) more.items }

pub record BoundsOut : Type 0 where
  pub inside : List Diagnostic
  pub bounds : typed.Bounds

abbrev pub no_more_bounds : BoundsOut
no_more_bounds = record { inside = []; bounds = typed.no_bounds }

abbrev pub bound_out : Place → Out → Out → BoundsOut → BoundsOut
bound_out p a b more = record { inside = faults a ++ faults b ++ fault_of (two_parts (gives a) (gives b) (bound_row p)) ++ more.inside; bounds = typed.bound_and (typed.Between p a.node b.node) more.bounds }

-- what is found of a declaration, and of declarations
pub record DeclOut : Type 0 where
  pub inside : List Diagnostic
  pub decl : typed.Decl

pub record DeclsOut : Type 0 where
  pub inside : List Diagnostic
  pub decls : typed.Decls

abbrev pub no_more_decls : DeclsOut
no_more_decls = record { inside = []; decls = typed.no_decls }

abbrev pub decl_out : DeclOut → DeclsOut → DeclsOut
decl_out d more = record { inside = d.inside ++ more.inside; decls = typed.decl_and d.decl more.decls }

abbrev pub simple_out : Scopes → tree.TypeSpec → List Placed → DeclOut
simple_out path spec xs = record { inside = spec_faults path spec; decl = typed.Simple (spec_type path spec) (declare_at xs) }

-- the faults of an array's type and dimensions
abbrev pub array_faults : Scopes → tree.TypeSpec → List Placed → ℕ → List Diagnostic
array_faults path spec xs n = spec_faults path spec ++ dimension_fault xs n

abbrev pub array_out : Scopes → tree.TypeSpec → List Placed → ℕ → BoundsOut → DeclOut
array_out path spec xs n bounds = record { inside = array_faults path spec xs n ++ bounds.inside; decl = typed.Array (spec_type path spec) (declare_at xs) bounds.bounds }

abbrev pub typed_formals : Scopes → List tree.Formal → List typed.Formal
typed_formals path [] = []
typed_formals path (f ∷ formals) = record { type = result_type path f.spec; mode = f.mode; names = declare_at f.names; dimensions = f.dimensions } ∷ typed_formals path formals

-- A procedure whose stated type is faulty gives no fault at PROCEDURE.
abbrev pub procedure_verdict : Place → List Diagnostic → Option ValueType → Out → Verdict
procedure_verdict p [] result body = part (gives body) (procedure_row p result)
procedure_verdict p (f ∷ faults) result body = Silent

abbrev pub procedure_out : Scopes → Place → Option tree.TypeSpec → Placed → List tree.Formal → Out → DeclOut
procedure_out path p result x formals body =
    record {
      inside = result_faults path result ++ formal_faults path formals ++ twice [] (formal_scope path formals) ++ faults body ++ fault_of (procedure_verdict p (result_faults path result) (result_type path result) body);
      decl = typed.Proc p (result_type path result) (declares_at x) (typed_formals path formals) body.node;
    }

abbrev pub typed_groups : Scopes → List (tree.TypeSpec × List Placed) → List typed.Group
typed_groups path [] = []
typed_groups path (g ∷ groups) = record { type = spec_type path g.0; names = declare_at g.1 } ∷ typed_groups path groups

abbrev pub class_out : Scopes → tree.ClassDecl → DeclOut
class_out path c = record { inside = group_faults path c.groups; decl = typed.Class (declares_at c.name) (typed_groups path c.groups) }

abbrev pub block_out : Place → Place → List Diagnostic → DeclsOut → ItemsOut → Out
block_out p f twices decls items = out (twices ++ decls.inside ++ items.inside) p f items.verdict (typed.Block decls.decls items.items)

-- ---- phrases

abbrev mutual
  pub typed_phrase : Scopes → tree.Phrase → Out
  typed_phrase path (tree.At p f k) = typed_kind path p f k

  pub typed_kind : Scopes → Place → Place → tree.Kind → Out
  typed_kind path p f tree.Empty = empty_out p f
  typed_kind path p f tree.Null = leaf p f null_type typed.Null
  typed_kind path p f (tree.Number n) = leaf p f Integer (typed.Number n)
  typed_kind path p f (tree.Truth b) = leaf p f Logical (typed.Truth b)
  typed_kind path p f (tree.BitsLit b) = leaf p f Bits (typed.BitsLit b)
  typed_kind path p f (tree.Quoted s) = leaf p f (Str (length s)) (typed.Quoted s)
  typed_kind path p f (tree.Named x lists) = named_out p f (declared path x) (first_list path p (declared path x) lists)
  typed_kind path p f (tree.Negated a) = negated_out p f (typed_phrase path a)
  typed_kind path p f (tree.Abs a) = absolute_out p f (typed_phrase path a)
  typed_kind path p f (tree.Signed minus a) = signed_out p f minus (typed_phrase path a)
  typed_kind path p f (tree.Chain a links) = let o = typed_phrase path a in chain_out p f o (typed_links path (as_verdict (gives o)) links)
  typed_kind path p f (tree.Relation op a b) = relation_out p f op (typed_phrase path a) (typed_phrase path b)
  typed_kind path p f (tree.IsClass a x q) = is_out p f (x, q) (declared path x) (typed_phrase path a)
  typed_kind path p f (tree.Assign a b) = assign_out p f (left_of path a) (typed_phrase path a) (typed_phrase path b)
  typed_kind path p f (tree.IfThen c a tree.Missing) = if_out p f (typed_phrase path c) (typed_phrase path a)
  typed_kind path p f (tree.IfThen c a (tree.There b)) = if_else_out p f (typed_phrase path c) (typed_phrase path a) (typed_phrase path b)
  typed_kind path p f (tree.CaseValue c values) = case_value_out p f (typed_phrase path c) (typed_phrases path values)
  typed_kind path p f (tree.CaseDo c parts) = case_do_out p f (typed_phrase path c) (typed_phrases path parts)
  typed_kind path p f (tree.ForStep x a tree.Missing b body) = for_until_out p f (typed_phrase path a) (typed_phrase path b) (typed_phrase (control_scope p x ∷ path) body)
  typed_kind path p f (tree.ForStep x a (tree.There step) b body) = for_step_out p f (typed_phrase path a) (typed_phrase path step) (typed_phrase path b) (typed_phrase (control_scope p x ∷ path) body)
  typed_kind path p f (tree.ForList x values body) = for_list_out p f (typed_phrases path values) (typed_phrase (control_scope p x ∷ path) body)
  typed_kind path p f (tree.WhileDo c a) = while_out p f (typed_phrase path c) (typed_phrase path a)
  typed_kind path p f (tree.Goto x) = goto_out p f (declared path x)
  typed_kind path p f (tree.Assert c) = assert_out p f (typed_phrase path c)
  typed_kind path p f (tree.Block decls items) =
      let names = names_of_block decls items in
      let inner = (meanings path (names ∷ path) decls ++ label_entries items) ∷ path in
      block_out p f (twice [] names) (typed_decls path inner decls) (typed_items inner (Good Statement) items)

  pub typed_phrases : Scopes → tree.Phrases → PhrasesOut
  typed_phrases path tree.no_phrases = no_outs
  typed_phrases path (tree.phrase_and a phrases) = out_and (typed_phrase path a) (typed_phrases path phrases)

  -- the links of a chain whose front has this verdict
  pub typed_links : Scopes → Verdict → tree.Links → LinksOut
  typed_links path v tree.no_links = no_more v
  typed_links path v (tree.link_and (tree.Linked op p a) links) = let o = typed_phrase path a in link_out op p o (typed_links path (link_verdict op p v o) links)

  -- the lists behind a name
  pub first_list : Scopes → Place → Option (Entry Known) → tree.Lists → ListsOut
  first_list path p e tree.no_lists = listed (use_alone p e)
  first_list path p e (tree.list_and (tree.OfActuals q actuals) lists) = let r = typed_parts path (reading_of e) actuals in list_out q r (more_lists path (use_with_list p e r.parts) lists)
  first_list path p e (tree.list_and (tree.OfPart q a n) lists) = let o = typed_phrase path a in part_out q n o (more_lists path (part_verdict q n (use_as_base p e o) o) lists)

  -- further lists behind what has this verdict
  pub more_lists : Scopes → Verdict → tree.Lists → ListsOut
  more_lists path v tree.no_lists = listed v
  more_lists path v (tree.list_and (tree.OfActuals q actuals) lists) = let r = typed_parts path as_phrases actuals in list_out q r (more_lists path (list_verdict q v r.parts) lists)
  more_lists path v (tree.list_and (tree.OfPart q a n) lists) = let o = typed_phrase path a in part_out q n o (more_lists path (part_verdict q n v o) lists)

  pub typed_parts : Scopes → Reading → tree.Actuals → PartsOut
  typed_parts path r tree.no_actuals = no_parts
  typed_parts path r (tree.actual_and (tree.Star q) actuals) = star_and q (typed_parts path (behind r) actuals)
  typed_parts path r (tree.actual_and (tree.Given a) actuals) = given_and (given path (wanted r) a (typed_phrase path a)) (typed_parts path (behind r) actuals)

  -- the items of a block, behind those that have this verdict together
  pub typed_items : Scopes → Verdict → tree.Items → ItemsOut
  typed_items path v tree.no_items = no_more_items v
  typed_items path v (tree.item_and (tree.Labelled labels a) items) =
      let o = typed_phrase path a in
      let w = item_verdict items labels a o in
      item_out labels o w (typed_items path (then_item v w) items)

  -- bounds, which are looked up outside the block
  pub typed_bounds : Scopes → tree.Bounds → BoundsOut
  typed_bounds around tree.no_bounds = no_more_bounds
  typed_bounds around (tree.bound_and (tree.Between p a b) bounds) = bound_out p (typed_phrase around a) (typed_phrase around b) (typed_bounds around bounds)

  pub typed_decls : Scopes → Scopes → tree.Decls → DeclsOut
  typed_decls around path tree.no_decls = no_more_decls
  typed_decls around path (tree.decl_and d decls) = decl_out (typed_decl around path d) (typed_decls around path decls)

  pub typed_decl : Scopes → Scopes → tree.Decl → DeclOut
  typed_decl around path (tree.Simple spec xs) = simple_out path spec xs
  typed_decl around path (tree.Array spec xs bounds) = array_out path spec xs (bound_count bounds) (typed_bounds around bounds)
  typed_decl around path (tree.Proc p result x formals body) = procedure_out path p result x formals (typed_phrase (formal_scope path formals ∷ path) body)
  typed_decl around path (tree.Class c) = class_out path c

  -- What the declarations of a block make of its names, in order of place. A declaration is faulty exactly where a type, a bound or the
  -- number of dimensions that it or one of its formals states has or holds a fault.
  pub meanings : Scopes → Scopes → tree.Decls → Scope Known
  meanings around path tree.no_decls = []
  meanings around path (tree.decl_and d decls) = meanings_of around path d ++ meanings around path decls

  pub meanings_of : Scopes → Scopes → tree.Decl → Scope Known
  meanings_of around path (tree.Simple spec xs) = entries xs (good (spec_faults path spec) (a_variable (spec_type path spec)))
  meanings_of around path (tree.Array spec xs bounds) = entries xs (good (array_faults path spec xs (bound_count bounds) ++ without_twice (typed_bounds around bounds).inside) (an_array (spec_type path spec) (bound_count bounds)))
  meanings_of around path (tree.Proc p result x formals body) = procedure_entry x (formal_types path formals) (good (result_faults path result ++ formal_faults path formals) (a_procedure (result_type path result) (formal_types path formals))) ∷ []
  meanings_of around path (tree.Class c) = class_entries path c

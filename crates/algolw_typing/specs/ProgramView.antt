-- The typed tree, the names, the record classes and the statements that a program in memory is.
use Rattle.std.specs.Prelude.{◌≡◌, ◌<◌, ℕ, [], ◌∷◌, map, Option, Some, None, slice_index_or}
use Rattle.std.specs.List.{All}
use Rattle.std.specs.Prelude as std
use Rattle.std.specs.Option.{option_map}
use Rattle.value_ops.specs.declared.places.Place.{Place}
use Rattle.value_ops.specs.declared.values.ClassId.{ClassId}
use Rattle.value_ops.specs.declared.values.SimpleType.{SimpleType}
use Rattle.value_ops.specs.declared.values.SimpleType.TheVariants as simple
use Rattle.record_classes.specs.Classes as classes
use Rattle.algolw_tree.specs.declared.programs.Gives.{Gives}
use Rattle.algolw_tree.specs.declared.programs.Gives.TheVariants as gives
use Rattle.algolw_tree.specs.declared.programs.Node.{Node}
use Rattle.algolw_tree.specs.declared.programs.NodeKind.{NodeKind, Empty, Null, Number, Truth, BitsLit, Quoted, Goto, Named', Negated', Abs', Signed', Chain', Relation', IsClass', Assign', IfThen', CaseValue', CaseDo', ForStep', ForList', WhileDo', Assert', Block', Row_of-TypedLink, end_of-TypedLink, more_of-TypedLink, Row_of-TypedList, end_of-TypedList, more_of-TypedList, Row_of-Node, end_of-Node, more_of-Node, Held-NodeKind-IfThen-2, Some', None', Row_of-TypedPart, end_of-TypedPart, more_of-TypedPart, Row_of-TypedItem, end_of-TypedItem, more_of-TypedItem, Row_of-TypedDecl, end_of-TypedDecl, more_of-TypedDecl}
use Rattle.algolw_tree.specs.declared.programs.TypedActual.{TypedActual, Star, Phrase'}
use Rattle.algolw_tree.specs.declared.programs.TypedPart.{TypedPart, Empty as empty_part, Phrase' as phrase_part}
use Rattle.algolw_tree.specs.declared.programs.TypedItem.{TypedItem, Empty as empty_item, Plain', Labelled' as labelled_item}
use Rattle.algolw_tree.specs.declared.programs.TypedLabelled.{TypedLabelled, TypedLabelled'}
use Rattle.algolw_tree.specs.declared.programs.TypedProc.{TypedProc, TypedProc'}
use Rattle.algolw_tree.specs.declared.programs.TypedDecl.{TypedDecl, Simple, Array', Proc, Class, Row_of-TypedBound, end_of-TypedBound, more_of-TypedBound}
use Rattle.algolw_tree.specs.declared.programs.TypedListKind.{TypedListKind, Actuals', Part', Row_of-TypedActual, end_of-TypedActual, more_of-TypedActual}
use Rattle.algolw_tree.specs.declared.programs.TypedFormal.{TypedFormal}
use Rattle.algolw_tree.specs.declared.programs.TypedClass.{TypedClass}
use Rattle.algolw_tree.specs.declared.programs.Program.{Program}
use Rattle.algolw_typing.specs.Types as types
use Rattle.algolw_typing.specs.Typed as typed
use Rattle.algolw_typing.specs.Naming.{Class as ClassInfo}
use Rattle.algolw_typing.specs.Programs.{TypedProgram}

-- what the numbers in a program stand for: names and classes by the places of their declarations, sets of classes, statements by their first tokens
pub record Numbers : Type 0 where
  pub names : std.List Place
  pub classes : std.List Place
  pub sets : std.List (std.List ClassId)
  pub statements : std.List Place

-- where nothing of a program stands
abbrev pub nowhere : Place
nowhere = record { card = 0; column = 0 }

abbrev pub numbered : std.List Place → ℕ → Place
numbered places n = slice_index_or places n nowhere

abbrev pub nowhere_set : std.List Place
nowhere_set = nowhere ∷ []

-- the classes of a set, by place; a number that no set has gives a class that is none
abbrev pub set_view : Numbers → ℕ → std.List Place
set_view ns set = slice_index_or (map (map (λ c. numbered ns.classes c.0)) ns.sets) set nowhere_set

abbrev pub type_view : Numbers → SimpleType → types.ValueType
type_view ns simple.Integer = types.Integer
type_view ns simple.Logical = types.Logical
type_view ns simple.Bits = types.Bits
type_view ns (simple.Str n) = types.Str n
type_view ns (simple.Reference set) = types.Reference (set_view ns set.0)

abbrev pub gives_view : Numbers → Gives → types.Gives
gives_view ns gives.Statement = types.Statement
gives_view ns (gives.Simple t) = types.Simple (type_view ns t)

-- what is declared: by its number, beside which its place stands
abbrev pub target_view : Numbers → ℕ × Place → typed.Placed
target_view ns t = (numbered ns.names t.0, t.1)

abbrev pub targets_view : Numbers → std.List (ℕ × Place) → std.List typed.Placed
targets_view ns targets = map (target_view ns) targets

abbrev pub formal_view : Numbers → TypedFormal → typed.Formal
formal_view ns f = record { type = option_map (type_view ns) f.spec; mode = f.mode; names = targets_view ns f.names.items; dimensions = f.dimensions }

abbrev pub class_view : Numbers → TypedClass → typed.Decl
class_view ns c = typed.Class (target_view ns c.name) (map (λ g. record { type = type_view ns g.0; names = targets_view ns g.1.items }) c.groups.items)

abbrev pub at_view : Numbers → Place → Place → Option Gives → Option ℕ → typed.Kind → typed.Node
at_view ns place first g s k = typed.At place first (option_map (gives_view ns) g) (option_map (numbered ns.statements) s) k

-- nothing, before the token at a place: a statement, but none that is counted
abbrev pub empty_view : Place → typed.Node
empty_view at = typed.At at at (Some types.Statement) None typed.Empty

abbrev mutual
  pub kind_view : Numbers → NodeKind → typed.Kind
  kind_view ns Empty = typed.Empty
  kind_view ns Null = typed.Null
  kind_view ns (Number n) = typed.Number n
  kind_view ns (Truth b) = typed.Truth b
  kind_view ns (BitsLit b) = typed.BitsLit b
  kind_view ns (Quoted t) = typed.Quoted t.value
  kind_view ns (Goto n) = typed.Goto (numbered ns.names n)
  kind_view ns (Named' n shape lists) = typed.Named (numbered ns.names n) (lists_view ns lists)
  kind_view ns (Negated' q p f k g s) = typed.Negated (at_view ns p f g s (kind_view ns k))
  kind_view ns (Abs' q p f k g s) = typed.Abs (at_view ns p f g s (kind_view ns k))
  kind_view ns (Signed' minus q p f k g s) = typed.Signed minus (at_view ns p f g s (kind_view ns k))
  kind_view ns (Chain' q p f k g s shape links) = typed.Chain (at_view ns p f g s (kind_view ns k)) (links_view ns links)
  kind_view ns (Relation' op q p f k g s q2 p2 f2 k2 g2 s2) = typed.Relation op (at_view ns p f g s (kind_view ns k)) (at_view ns p2 f2 g2 s2 (kind_view ns k2))
  kind_view ns (IsClass' q p f k g s n at) = typed.IsClass (at_view ns p f g s (kind_view ns k)) (numbered ns.names n) at
  kind_view ns (Assign' q p f k g s q2 p2 f2 k2 g2 s2) = typed.Assign (at_view ns p f g s (kind_view ns k)) (at_view ns p2 f2 g2 s2 (kind_view ns k2))
  kind_view ns (IfThen' q p f k g s q2 p2 f2 k2 g2 s2 otherwise) = typed.IfThen (at_view ns p f g s (kind_view ns k)) (at_view ns p2 f2 g2 s2 (kind_view ns k2)) (perhaps_view ns otherwise)
  kind_view ns (CaseValue' q p f k g s shape values) = typed.CaseValue (at_view ns p f g s (kind_view ns k)) (nodes_view ns values)
  kind_view ns (CaseDo' q p f k g s shape parts) = typed.CaseDo (at_view ns p f g s (kind_view ns k)) (parts_view ns parts)
  kind_view ns (ForStep' n q p f k g s step q2 p2 f2 k2 g2 s2 q3 p3 f3 k3 g3 s3) = typed.ForStep (numbered ns.names n) (at_view ns p f g s (kind_view ns k)) (perhaps_view ns step) (at_view ns p2 f2 g2 s2 (kind_view ns k2)) (at_view ns p3 f3 g3 s3 (kind_view ns k3))
  kind_view ns (ForList' n shape values q p f k g s) = typed.ForList (numbered ns.names n) (nodes_view ns values) (at_view ns p f g s (kind_view ns k))
  kind_view ns (WhileDo' q p f k g s q2 p2 f2 k2 g2 s2) = typed.WhileDo (at_view ns p f g s (kind_view ns k)) (at_view ns p2 f2 g2 s2 (kind_view ns k2))
  kind_view ns (Assert' q p f k g s) = typed.Assert (at_view ns p f g s (kind_view ns k))
  kind_view ns (Block' shape decls shape2 items) = typed.Block (decls_view ns decls) (items_view ns items)

  pub nodes_view : Numbers → {m : _} → Row_of-Node m → typed.Nodes
  nodes_view ns end_of-Node = typed.no_nodes
  nodes_view ns (more_of-Node p f k g s rest) = typed.node_and (at_view ns p f g s (kind_view ns k)) (nodes_view ns rest)

  pub links_view : Numbers → {m : _} → Row_of-TypedLink m → typed.Links
  links_view ns end_of-TypedLink = typed.no_links
  links_view ns (more_of-TypedLink op q p f k g s rest) = typed.link_and (typed.Linked op q (at_view ns p f g s (kind_view ns k))) (links_view ns rest)

  pub lists_view : Numbers → {m : _} → Row_of-TypedList m → typed.Lists
  lists_view ns end_of-TypedList = typed.no_lists
  lists_view ns (more_of-TypedList q kind rest) = typed.list_and (listing_view ns q kind) (lists_view ns rest)

  pub listing_view : Numbers → Place → TypedListKind → typed.Listing
  listing_view ns at (Actuals' shape actuals) = typed.OfActuals at (actuals_view ns actuals)
  listing_view ns at (Part' q p f k g s n) = typed.OfPart at (at_view ns p f g s (kind_view ns k)) n

  pub actuals_view : Numbers → {m : _} → Row_of-TypedActual m → typed.Actuals
  actuals_view ns end_of-TypedActual = typed.no_actuals
  actuals_view ns (more_of-TypedActual actual rest) = typed.actual_and (actual_view ns actual) (actuals_view ns rest)

  pub actual_view : Numbers → TypedActual → typed.Actual
  actual_view ns (Star q) = typed.Star q
  actual_view ns (Phrase' p f k g s) = typed.Given (at_view ns p f g s (kind_view ns k))

  pub perhaps_view : Numbers → Held-NodeKind-IfThen-2 → typed.Perhaps
  perhaps_view ns None' = typed.Missing
  perhaps_view ns (Some' q p f k g s) = typed.There (at_view ns p f g s (kind_view ns k))

  pub parts_view : Numbers → {m : _} → Row_of-TypedPart m → typed.Nodes
  parts_view ns end_of-TypedPart = typed.no_nodes
  parts_view ns (more_of-TypedPart part rest) = typed.node_and (part_view ns part) (parts_view ns rest)

  pub part_view : Numbers → TypedPart → typed.Node
  part_view ns (empty_part at) = empty_view at
  part_view ns (phrase_part q p f k g s) = at_view ns p f g s (kind_view ns k)

  pub items_view : Numbers → {m : _} → Row_of-TypedItem m → typed.Items
  items_view ns end_of-TypedItem = typed.no_items
  items_view ns (more_of-TypedItem item rest) = typed.item_and (item_view ns item) (items_view ns rest)

  pub item_view : Numbers → TypedItem → typed.Item
  item_view ns (empty_item at) = typed.Labelled [] (empty_view at)
  item_view ns (Plain' q p f k g s) = typed.Labelled [] (at_view ns p f g s (kind_view ns k))
  item_view ns (labelled_item q l) = labelled_view ns l

  pub labelled_view : Numbers → TypedLabelled → typed.Item
  labelled_view ns (TypedLabelled' labels q p f k g s) = typed.Labelled (targets_view ns labels.items) (at_view ns p f g s (kind_view ns k))

  pub decls_view : Numbers → {m : _} → Row_of-TypedDecl m → typed.Decls
  decls_view ns end_of-TypedDecl = typed.no_decls
  decls_view ns (more_of-TypedDecl d rest) = typed.decl_and (decl_view ns d) (decls_view ns rest)

  pub decl_view : Numbers → TypedDecl → typed.Decl
  decl_view ns (Simple t targets) = typed.Simple (type_view ns t) (targets_view ns targets.items)
  decl_view ns (Array' t targets shape bounds) = typed.Array (type_view ns t) (targets_view ns targets.items) (bounds_view ns bounds)
  decl_view ns (Proc procedure) = procedure_view ns procedure
  decl_view ns (Class c) = class_view ns c

  pub procedure_view : Numbers → TypedProc → typed.Decl
  procedure_view ns (TypedProc' place result name formals q p f k g s) = typed.Proc place (option_map (type_view ns) result) (target_view ns name) (map (formal_view ns) formals.items) (at_view ns p f g s (kind_view ns k))

  pub bounds_view : Numbers → {m : _} → Row_of-TypedBound m → typed.Bounds
  bounds_view ns end_of-TypedBound = typed.no_bounds
  bounds_view ns (more_of-TypedBound q p f k g s p2 f2 k2 g2 s2 rest) = typed.bound_and (typed.Between q (at_view ns p f g s (kind_view ns k)) (at_view ns p2 f2 g2 s2 (kind_view ns k2))) (bounds_view ns rest)

abbrev pub node_view : Numbers → Node → typed.Node
node_view ns n = at_view ns n.place n.first n.gives n.statement (kind_view ns n.kind)

-- ---- programs

abbrev pub numbers_of : Program → TypedProgram → Numbers
numbers_of p x = record { names = map (λ i. i.place) p.names.items; classes = map (λ c. c.place) x.classes; sets = p.classes.sets; statements = p.statements.items }

-- a class of the table, without the place of its declaration
abbrev pub class_in_table : Numbers → classes.Class → std.List ℕ × std.List (std.List ℕ × types.ValueType)
class_in_table ns c = (c.name, map (λ f. (f.0, type_view ns f.1)) c.fields)

-- A program in memory is what a phrase without faults is: a name goes by its number among the names, a class by its number among the classes,
-- a statement by its number among the statements, each in order of place. It has the number of each class's name, and sets have no other classes.
pub record HoldsProgram (p : Program) (x : TypedProgram) : Type 0 where
  pub names : p.names.items ≡ x.names
  pub statements : p.statements.items ≡ x.statements
  pub classes : map (class_in_table (numbers_of p x)) p.classes.classes ≡ map (λ (c : ClassInfo). (c.name, c.fields)) x.classes
  pub class_names : map (numbered (map (λ i. i.place) x.names)) p.class_names.items ≡ map (λ (c : ClassInfo). c.place) x.classes
  pub members : All (All (λ (c : ClassId). c.0 < std.length x.classes)) p.classes.sets
  pub root : node_view (numbers_of p x) p.root ≡ x.root

-- The tree that a phrase in memory is.
use Rattle.std.specs.Prelude.{[], Option, Some, None, map}
use Rattle.std.specs.Option.{option_map}
use Rattle.std.specs.declared.boxed.Box.{Box}
use Rattle.std.specs.declared.alloc.Global.{Global}
use Rattle.algolw_tree.specs.declared.phrases.Phrase.{Phrase}
use Rattle.algolw_tree.specs.declared.phrases.Kind.{Kind, Empty, Null, Number, Truth, BitsLit, Quoted, Named, Goto, Applied', Listed', Negated', Abs', Signed', Chain', Relation', IsClass', Assign', IfThen', CaseValue', CaseDo', ForStep', ForList', WhileDo', Assert', Block'}
use Rattle.algolw_tree.specs.declared.phrases.Applied.{Applied}
use Rattle.algolw_tree.specs.declared.phrases.Relation.{Relation}
use Rattle.algolw_tree.specs.declared.phrases.Assignment.{Assignment}
use Rattle.algolw_tree.specs.declared.phrases.Repetition.{Repetition}
use Rattle.algolw_tree.specs.declared.phrases.Listed.{Listed, Listed' as listed, Row_of-List, end_of-List, more_of-List}
use Rattle.algolw_tree.specs.declared.phrases.Chain.{Chain, Chain' as chain, Row_of-Link, end_of-Link, more_of-Link}
use Rattle.algolw_tree.specs.declared.phrases.Conditional.{Conditional, Conditional', Held-Conditional-otherwise, Some', None'}
use Rattle.algolw_tree.specs.declared.phrases.CaseValue.{CaseValue, CaseValue' as case_value, Row_of-Phrase, end_of-Phrase, more_of-Phrase}
use Rattle.algolw_tree.specs.declared.phrases.CaseDo.{CaseDo, Row_of-Part, end_of-Part, more_of-Part}
use Rattle.algolw_tree.specs.declared.phrases.ForStep.{ForStep, ForStep' as for_step}
use Rattle.algolw_tree.specs.declared.phrases.ForList.{ForList, ForList' as for_list}
use Rattle.algolw_tree.specs.declared.phrases.Block.{Block, Row_of-Item, end_of-Item, more_of-Item, Row_of-Decl, end_of-Decl, more_of-Decl}
use Rattle.algolw_tree.specs.declared.phrases.Actual.{Actual, Star, Phrase'}
use Rattle.algolw_tree.specs.declared.phrases.ProcDecl.{ProcDecl, ProcDecl'}
use Rattle.algolw_tree.specs.declared.phrases.Decl.{Decl, Simple, Array', Proc, Class, Row_of-Bound, end_of-Bound, more_of-Bound}
use Rattle.algolw_tree.specs.declared.phrases.ListKind.{ListKind, Actuals', Part', Row_of-Actual, end_of-Actual, more_of-Actual}
use Rattle.algolw_tree.specs.declared.phrases.Link.{Link}
use Rattle.algolw_tree.specs.declared.phrases.List.{List}
use Rattle.algolw_tree.specs.declared.phrases.Part.{Part, Empty as empty_part, Phrase' as phrase_part}
use Rattle.algolw_tree.specs.declared.phrases.Item.{Item, Empty as empty_item, Plain', Labelled' as labelled_item}
use Rattle.algolw_tree.specs.declared.phrases.Labelled.{Labelled, Labelled'}
use Rattle.algolw_tree.specs.declared.phrases.Bound.{Bound}
use Rattle.algolw_tree.specs.declared.phrases.ClassTest.{ClassTest}
use Rattle.value_ops.specs.declared.places.Place.{Place}
use Rattle.algolw_tree.specs.declared.phrases.TypeSpec.{TypeSpec}
use Rattle.algolw_tree.specs.declared.phrases.TypeSpec.TheVariants as spec
use Rattle.algolw_tree.specs.declared.phrases.Formal.{Formal}
use Rattle.algolw_tree.specs.declared.phrases.ClassDecl.{ClassDecl}
use Rattle.algolw_tree.specs.Tree as Tree
use Rattle.algolw_tree.specs.Grammar.{actuals_of, phrases_of, decls_of, items_of}

abbrev pub spec_tree : TypeSpec → Tree.TypeSpec
spec_tree spec.Integer = Tree.Integer
spec_tree spec.Logical = Tree.Logical
spec_tree (spec.Bits n) = Tree.Bits n
spec_tree (spec.Str n) = Tree.Str n
spec_tree (spec.Reference names) = Tree.Reference names.items

abbrev pub formal_tree : Formal → Tree.Formal
formal_tree f = record { spec = option_map spec_tree f.spec; mode = f.mode; names = f.names.items; dimensions = f.dimensions }

abbrev pub class_tree : ClassDecl → Tree.ClassDecl
class_tree c = record { name = c.name; groups = map (λ g. (spec_tree g.0, g.1.items)) c.groups.items }

-- nothing, before the token at a place
abbrev pub empty_tree : Place → Tree.Phrase
empty_tree place = Tree.At place place Tree.Empty

abbrev mutual
  pub kind_tree : Kind → Tree.Kind
  kind_tree Empty = Tree.Empty
  kind_tree Null = Tree.Null
  kind_tree (Number n) = Tree.Number n
  kind_tree (Truth b) = Tree.Truth b
  kind_tree (BitsLit b) = Tree.BitsLit b
  kind_tree (Quoted t) = Tree.Quoted t.value
  kind_tree (Goto n) = Tree.Goto n.value
  kind_tree (Named n) = Tree.Named n Tree.no_lists
  kind_tree (Applied' q n place shape actuals) = Tree.Named n (Tree.list_and (Tree.OfActuals place (actuals_tree actuals)) Tree.no_lists)
  kind_tree (Listed' q l) = listed_tree l
  kind_tree (Negated' q place first kind) = Tree.Negated (Tree.At place first (kind_tree kind))
  kind_tree (Abs' q place first kind) = Tree.Abs (Tree.At place first (kind_tree kind))
  kind_tree (Signed' minus q place first kind) = Tree.Signed minus (Tree.At place first (kind_tree kind))
  kind_tree (Chain' q c) = chain_tree c
  kind_tree (Relation' q op place first kind place2 first2 kind2) = Tree.Relation op (Tree.At place first (kind_tree kind)) (Tree.At place2 first2 (kind_tree kind2))
  kind_tree (IsClass' q place first kind class) = Tree.IsClass (Tree.At place first (kind_tree kind)) class.0 class.1
  kind_tree (Assign' q place first kind place2 first2 kind2) = Tree.Assign (Tree.At place first (kind_tree kind)) (Tree.At place2 first2 (kind_tree kind2))
  kind_tree (IfThen' q c) = conditional_tree c
  kind_tree (CaseValue' q c) = case_value_tree c
  kind_tree (CaseDo' q place first kind shape parts) = Tree.CaseDo (Tree.At place first (kind_tree kind)) (parts_tree parts)
  kind_tree (ForStep' q f) = for_step_tree f
  kind_tree (ForList' q f) = for_list_tree f
  kind_tree (WhileDo' q place first kind place2 first2 kind2) = Tree.WhileDo (Tree.At place first (kind_tree kind)) (Tree.At place2 first2 (kind_tree kind2))
  kind_tree (Assert' q place first kind) = Tree.Assert (Tree.At place first (kind_tree kind))
  kind_tree (Block' q shape decls shape2 items) = Tree.Block (decls_tree decls) (items_tree items)

  pub listed_tree : Listed → Tree.Kind
  listed_tree (listed n shape lists) = Tree.Named n (lists_tree lists)

  pub chain_tree : Chain → Tree.Kind
  chain_tree (chain place first kind shape links) = Tree.Chain (Tree.At place first (kind_tree kind)) (links_tree links)

  pub conditional_tree : Conditional → Tree.Kind
  conditional_tree (Conditional' place first kind place2 first2 kind2 otherwise) = Tree.IfThen (Tree.At place first (kind_tree kind)) (Tree.At place2 first2 (kind_tree kind2)) (perhaps_tree otherwise)

  pub case_value_tree : CaseValue → Tree.Kind
  case_value_tree (case_value place first kind shape values) = Tree.CaseValue (Tree.At place first (kind_tree kind)) (phrases_tree values)

  pub for_step_tree : ForStep → Tree.Kind
  for_step_tree (for_step n place first kind step place2 first2 kind2 place3 first3 kind3) = Tree.ForStep n (Tree.At place first (kind_tree kind)) (perhaps_tree step) (Tree.At place2 first2 (kind_tree kind2)) (Tree.At place3 first3 (kind_tree kind3))

  pub for_list_tree : ForList → Tree.Kind
  for_list_tree (for_list n shape values place first kind) = Tree.ForList n (phrases_tree values) (Tree.At place first (kind_tree kind))

  pub phrases_tree : {m : _} → Row_of-Phrase m → Tree.Phrases
  phrases_tree end_of-Phrase = Tree.no_phrases
  phrases_tree (more_of-Phrase place first kind rest) = Tree.phrase_and (Tree.At place first (kind_tree kind)) (phrases_tree rest)

  pub links_tree : {m : _} → Row_of-Link m → Tree.Links
  links_tree end_of-Link = Tree.no_links
  links_tree (more_of-Link op place right_place first kind rest) = Tree.link_and (Tree.Linked op place (Tree.At right_place first (kind_tree kind))) (links_tree rest)

  pub lists_tree : {m : _} → Row_of-List m → Tree.Lists
  lists_tree end_of-List = Tree.no_lists
  lists_tree (more_of-List place kind rest) = Tree.list_and (listing_tree place kind) (lists_tree rest)

  pub listing_tree : Place → ListKind → Tree.Listing
  listing_tree at (Actuals' shape actuals) = Tree.OfActuals at (actuals_tree actuals)
  listing_tree at (Part' q place first kind n) = Tree.OfPart at (Tree.At place first (kind_tree kind)) n

  pub actuals_tree : {m : _} → Row_of-Actual m → Tree.Actuals
  actuals_tree end_of-Actual = Tree.no_actuals
  actuals_tree (more_of-Actual actual rest) = Tree.actual_and (actual_tree actual) (actuals_tree rest)

  pub actual_tree : Actual → Tree.Actual
  actual_tree (Star place) = Tree.Star place
  actual_tree (Phrase' place first kind) = Tree.Given (Tree.At place first (kind_tree kind))

  pub perhaps_tree : Held-Conditional-otherwise → Tree.Perhaps
  perhaps_tree None' = Tree.Missing
  perhaps_tree (Some' q place first kind) = Tree.There (Tree.At place first (kind_tree kind))

  pub parts_tree : {m : _} → Row_of-Part m → Tree.Phrases
  parts_tree end_of-Part = Tree.no_phrases
  parts_tree (more_of-Part part rest) = Tree.phrase_and (part_tree part) (parts_tree rest)

  pub part_tree : Part → Tree.Phrase
  part_tree (empty_part place) = empty_tree place
  part_tree (phrase_part q place first kind) = Tree.At place first (kind_tree kind)

  pub items_tree : {m : _} → Row_of-Item m → Tree.Items
  items_tree end_of-Item = Tree.no_items
  items_tree (more_of-Item item rest) = Tree.item_and (item_tree item) (items_tree rest)

  pub item_tree : Item → Tree.Item
  item_tree (empty_item place) = Tree.Labelled [] (empty_tree place)
  item_tree (Plain' q place first kind) = Tree.Labelled [] (Tree.At place first (kind_tree kind))
  item_tree (labelled_item q l) = labelled_tree l

  pub labelled_tree : Labelled → Tree.Item
  labelled_tree (Labelled' labels q place first kind) = Tree.Labelled labels.items (Tree.At place first (kind_tree kind))

  pub decls_tree : {m : _} → Row_of-Decl m → Tree.Decls
  decls_tree end_of-Decl = Tree.no_decls
  decls_tree (more_of-Decl decl rest) = Tree.decl_and (decl_tree decl) (decls_tree rest)

  pub decl_tree : Decl → Tree.Decl
  decl_tree (Simple type names) = Tree.Simple (spec_tree type) names.items
  decl_tree (Array' type names shape bounds) = Tree.Array (spec_tree type) names.items (bounds_tree bounds)
  decl_tree (Proc procedure) = procedure_tree procedure
  decl_tree (Class c) = Tree.Class (class_tree c)

  pub procedure_tree : ProcDecl → Tree.Decl
  procedure_tree (ProcDecl' place result name formals q body_place first kind) = Tree.Proc place (option_map spec_tree result) name (map formal_tree formals.items) (Tree.At body_place first (kind_tree kind))

  pub bounds_tree : {m : _} → Row_of-Bound m → Tree.Bounds
  bounds_tree end_of-Bound = Tree.no_bounds
  bounds_tree (more_of-Bound place lower_place lower_first lower upper_place upper_first upper rest) = Tree.bound_and (Tree.Between place (Tree.At lower_place lower_first (kind_tree lower)) (Tree.At upper_place upper_first (kind_tree upper))) (bounds_tree rest)

abbrev pub tree : Phrase → Tree.Phrase
tree p = Tree.At p.place p.first (kind_tree p.kind)

-- The parts of a phrase in memory.
abbrev pub link_tree : Link → Tree.Link
link_tree l = Tree.Linked l.op l.place (tree l.right)

abbrev pub list_tree : List → Tree.Listing
list_tree l = listing_tree l.place l.kind

abbrev pub bound_tree : Bound → Tree.Bound
bound_tree b = Tree.Between b.place (tree b.lower) (tree b.upper)

-- a phrase that may be missing
abbrev pub optional_tree : Option (Box Phrase Global) → Tree.Perhaps
optional_tree None = Tree.Missing
optional_tree (Some a) = Tree.There (tree a.value)

abbrev pub applied_tree : Applied → Tree.Kind
applied_tree a = Tree.Named a.name (Tree.list_and (Tree.OfActuals a.place (actuals_of (map actual_tree a.actuals.items))) Tree.no_lists)

abbrev pub relation_tree : Relation → Tree.Kind
relation_tree r = Tree.Relation r.op (tree r.left) (tree r.right)

abbrev pub assignment_tree : Assignment → Tree.Kind
assignment_tree a = Tree.Assign (tree a.target) (tree a.value)

abbrev pub repetition_tree : Repetition → Tree.Kind
repetition_tree r = Tree.WhileDo (tree r.condition) (tree r.body)

abbrev pub class_test_tree : ClassTest → Tree.Kind
class_test_tree t = Tree.IsClass (tree t.reference) t.class.0 t.class.1

abbrev pub case_do_tree : CaseDo → Tree.Kind
case_do_tree c = Tree.CaseDo (tree c.selector) (phrases_of (map part_tree c.parts.items))

abbrev pub block_tree : Block → Tree.Kind
block_tree b = Tree.Block (decls_of (map decl_tree b.decls.items)) (items_of (map item_tree b.items.items))

-- That each name, class and statement of a typed tree has a number.
use Rattle.std.specs.Prelude.{◌≡◌, ⊤, Option, Some, None, true}
use Rattle.value_ops.specs.declared.places.Place.{Place}
use Rattle.algolw_typing.specs.Types.{has}
use Rattle.algolw_typing.specs.Typed as typed
use Rattle.algolw_typing.specs.Known.{KnowsType, KnowsResult, KnowsGives, KnowsDeclared, KnowsFormals, KnowsGroups}
use Rattle.program_numbers.specs.declared.numbering.Numbering.{Numbering}

abbrev pub StatementNumbered : Numbering → Option Place → Type 0
StatementNumbered n None = ⊤
StatementNumbered n (Some p) = has n.statements p ≡ true

abbrev mutual
  pub NodeNumbered : Numbering → typed.Node → Type 0
  NodeNumbered n (typed.At p f g s k) = KnowsGives n.classes g × StatementNumbered n s × KindNumbered n k

  pub KindNumbered : Numbering → typed.Kind → Type 0
  KindNumbered n (typed.Named d lists) = (has n.names d ≡ true) × ListsNumbered n lists
  KindNumbered n (typed.Negated a) = NodeNumbered n a
  KindNumbered n (typed.Abs a) = NodeNumbered n a
  KindNumbered n (typed.Signed minus a) = NodeNumbered n a
  KindNumbered n (typed.Chain a links) = NodeNumbered n a × LinksNumbered n links
  KindNumbered n (typed.Relation op a b) = NodeNumbered n a × NodeNumbered n b
  KindNumbered n (typed.IsClass a d q) = NodeNumbered n a × (has n.names d ≡ true)
  KindNumbered n (typed.Assign a b) = NodeNumbered n a × NodeNumbered n b
  KindNumbered n (typed.IfThen c a b) = NodeNumbered n c × NodeNumbered n a × PerhapsNumbered n b
  KindNumbered n (typed.CaseValue c values) = NodeNumbered n c × NodesNumbered n values
  KindNumbered n (typed.CaseDo c parts) = NodeNumbered n c × NodesNumbered n parts
  KindNumbered n (typed.ForStep d a step b body) = (has n.names d ≡ true) × NodeNumbered n a × PerhapsNumbered n step × NodeNumbered n b × NodeNumbered n body
  KindNumbered n (typed.ForList d values body) = (has n.names d ≡ true) × NodesNumbered n values × NodeNumbered n body
  KindNumbered n (typed.WhileDo c a) = NodeNumbered n c × NodeNumbered n a
  KindNumbered n (typed.Goto d) = has n.names d ≡ true
  KindNumbered n (typed.Assert c) = NodeNumbered n c
  KindNumbered n (typed.Block decls items) = DeclsNumbered n decls × ItemsNumbered n items
  KindNumbered n k = ⊤

  pub PerhapsNumbered : Numbering → typed.Perhaps → Type 0
  PerhapsNumbered n typed.Missing = ⊤
  PerhapsNumbered n (typed.There a) = NodeNumbered n a

  pub NodesNumbered : Numbering → typed.Nodes → Type 0
  NodesNumbered n typed.no_nodes = ⊤
  NodesNumbered n (typed.node_and a nodes) = NodeNumbered n a × NodesNumbered n nodes

  pub LinksNumbered : Numbering → typed.Links → Type 0
  LinksNumbered n typed.no_links = ⊤
  LinksNumbered n (typed.link_and l links) = LinkNumbered n l × LinksNumbered n links

  pub LinkNumbered : Numbering → typed.Link → Type 0
  LinkNumbered n (typed.Linked op q a) = NodeNumbered n a

  pub ListsNumbered : Numbering → typed.Lists → Type 0
  ListsNumbered n typed.no_lists = ⊤
  ListsNumbered n (typed.list_and l lists) = ListingNumbered n l × ListsNumbered n lists

  pub ListingNumbered : Numbering → typed.Listing → Type 0
  ListingNumbered n (typed.OfActuals q actuals) = ActualsNumbered n actuals
  ListingNumbered n (typed.OfPart q a length) = NodeNumbered n a

  pub ActualsNumbered : Numbering → typed.Actuals → Type 0
  ActualsNumbered n typed.no_actuals = ⊤
  ActualsNumbered n (typed.actual_and a actuals) = ActualNumbered n a × ActualsNumbered n actuals

  pub ActualNumbered : Numbering → typed.Actual → Type 0
  ActualNumbered n (typed.Star q) = ⊤
  ActualNumbered n (typed.Given a) = NodeNumbered n a

  pub ItemsNumbered : Numbering → typed.Items → Type 0
  ItemsNumbered n typed.no_items = ⊤
  ItemsNumbered n (typed.item_and i items) = ItemNumbered n i × ItemsNumbered n items

  pub ItemNumbered : Numbering → typed.Item → Type 0
  ItemNumbered n (typed.Labelled labels a) = KnowsDeclared n.names labels × NodeNumbered n a

  pub BoundsNumbered : Numbering → typed.Bounds → Type 0
  BoundsNumbered n typed.no_bounds = ⊤
  BoundsNumbered n (typed.bound_and b bounds) = BoundNumbered n b × BoundsNumbered n bounds

  pub BoundNumbered : Numbering → typed.Bound → Type 0
  BoundNumbered n (typed.Between q a b) = NodeNumbered n a × NodeNumbered n b

  pub DeclsNumbered : Numbering → typed.Decls → Type 0
  DeclsNumbered n typed.no_decls = ⊤
  DeclsNumbered n (typed.decl_and d decls) = DeclNumbered n d × DeclsNumbered n decls

  pub DeclNumbered : Numbering → typed.Decl → Type 0
  DeclNumbered n (typed.Simple t xs) = KnowsType n.classes t × KnowsDeclared n.names xs
  DeclNumbered n (typed.Array t xs bounds) = KnowsType n.classes t × KnowsDeclared n.names xs × BoundsNumbered n bounds
  DeclNumbered n (typed.Proc q result x formals body) = KnowsResult n.classes result × (has n.names x.0 ≡ true) × KnowsFormals n.names n.classes formals × NodeNumbered n body
  DeclNumbered n (typed.Class x groups) = (has n.names x.0 ≡ true) × KnowsGroups n.names n.classes groups

abbrev pub FormalNumbered : Numbering → typed.Formal → Type 0
FormalNumbered n f = KnowsResult n.classes f.type × KnowsDeclared n.names f.names

abbrev pub GroupNumbered : Numbering → typed.Group → Type 0
GroupNumbered n g = KnowsType n.classes g.type × KnowsDeclared n.names g.names

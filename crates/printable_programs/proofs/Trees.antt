-- Tokens and trees in which each quoted text is a text and each declared name a word.
use Rattle.std.specs.Prelude.{ℕ, ⊤, List, [], ◌∷◌, Option, Some, None}
use Rattle.algolw_tree.specs.declared.tokens.Token.{Token}
use Rattle.algolw_tree.specs.declared.tokens.TokenKind.{TokenKind}
use Rattle.algolw_tree.specs.declared.tokens.TokenKind.TheVariants as kind
use Rattle.algolw_tree.specs.Tree.{Placed, TypeSpec, Formal}
use Rattle.algolw_tree.specs.Tree as tree
use Rattle.algolw_typing.specs.Typed as typed
use Rattle.printed_lines.specs.Texts.{IsText, IsWord}

-- each of a list
abbrev pub Each : {A : Type 0} → (A → Type 0) → List A → Type 0
Each P [] = ⊤
Each P (x ∷ xs) = P x × Each P xs

-- ---- tokens

abbrev pub KindHolds : TokenKind → Type 0
KindHolds (kind.Named n) = IsWord n
KindHolds (kind.Quoted s) = IsText s
KindHolds k = ⊤

abbrev pub TokenHolds : Token → Type 0
TokenHolds t = KindHolds t.kind

-- ---- trees

abbrev pub NameHolds : Placed → Type 0
NameHolds x = IsWord x.0

abbrev pub FormalHolds : Formal → Type 0
FormalHolds f = Each NameHolds f.names

abbrev pub GroupHolds : TypeSpec × List Placed → Type 0
GroupHolds g = Each NameHolds g.1

abbrev mutual
  pub TreeHolds : tree.Phrase → Type 0
  TreeHolds (tree.At p f k) = KindOf k

  pub KindOf : tree.Kind → Type 0
  KindOf tree.Empty = ⊤
  KindOf tree.Null = ⊤
  KindOf (tree.Number n) = ⊤
  KindOf (tree.Truth b) = ⊤
  KindOf (tree.BitsLit b) = ⊤
  KindOf (tree.Quoted s) = IsText s
  KindOf (tree.Named x lists) = ListsHold lists
  KindOf (tree.Negated a) = TreeHolds a
  KindOf (tree.Abs a) = TreeHolds a
  KindOf (tree.Signed minus a) = TreeHolds a
  KindOf (tree.Chain a links) = TreeHolds a × LinksHold links
  KindOf (tree.Relation o a b) = TreeHolds a × TreeHolds b
  KindOf (tree.IsClass a x q) = TreeHolds a
  KindOf (tree.Assign a b) = TreeHolds a × TreeHolds b
  KindOf (tree.IfThen c a b) = TreeHolds c × TreeHolds a × PerhapsHolds b
  KindOf (tree.CaseValue c values) = TreeHolds c × TreesHold values
  KindOf (tree.CaseDo c parts) = TreeHolds c × TreesHold parts
  KindOf (tree.ForStep x a step b body) = IsWord x × TreeHolds a × PerhapsHolds step × TreeHolds b × TreeHolds body
  KindOf (tree.ForList x values body) = IsWord x × TreesHold values × TreeHolds body
  KindOf (tree.WhileDo c a) = TreeHolds c × TreeHolds a
  KindOf (tree.Goto x) = ⊤
  KindOf (tree.Assert c) = TreeHolds c
  KindOf (tree.Block decls items) = DeclsHold decls × ItemsHold items

  pub PerhapsHolds : tree.Perhaps → Type 0
  PerhapsHolds tree.Missing = ⊤
  PerhapsHolds (tree.There a) = TreeHolds a

  pub TreesHold : tree.Phrases → Type 0
  TreesHold tree.no_phrases = ⊤
  TreesHold (tree.phrase_and a rest) = TreeHolds a × TreesHold rest

  pub LinksHold : tree.Links → Type 0
  LinksHold tree.no_links = ⊤
  LinksHold (tree.link_and l rest) = LinkHolds l × LinksHold rest

  pub LinkHolds : tree.Link → Type 0
  LinkHolds (tree.Linked o q a) = TreeHolds a

  pub ListsHold : tree.Lists → Type 0
  ListsHold tree.no_lists = ⊤
  ListsHold (tree.list_and l rest) = ListingHolds l × ListsHold rest

  pub ListingHolds : tree.Listing → Type 0
  ListingHolds (tree.OfActuals q actuals) = ActualsHold actuals
  ListingHolds (tree.OfPart q a n) = TreeHolds a

  pub ActualsHold : tree.Actuals → Type 0
  ActualsHold tree.no_actuals = ⊤
  ActualsHold (tree.actual_and a rest) = ActualHolds a × ActualsHold rest

  pub ActualHolds : tree.Actual → Type 0
  ActualHolds (tree.Star q) = ⊤
  ActualHolds (tree.Given a) = TreeHolds a

  pub ItemsHold : tree.Items → Type 0
  ItemsHold tree.no_items = ⊤
  ItemsHold (tree.item_and i rest) = ItemHolds i × ItemsHold rest

  pub ItemHolds : tree.Item → Type 0
  ItemHolds (tree.Labelled labels a) = Each NameHolds labels × TreeHolds a

  pub BoundsHold : tree.Bounds → Type 0
  BoundsHold tree.no_bounds = ⊤
  BoundsHold (tree.bound_and b rest) = BoundHolds b × BoundsHold rest

  pub BoundHolds : tree.Bound → Type 0
  BoundHolds (tree.Between q a b) = TreeHolds a × TreeHolds b

  pub DeclsHold : tree.Decls → Type 0
  DeclsHold tree.no_decls = ⊤
  DeclsHold (tree.decl_and d rest) = DeclHolds d × DeclsHold rest

  pub DeclHolds : tree.Decl → Type 0
  DeclHolds (tree.Simple spec xs) = Each NameHolds xs
  DeclHolds (tree.Array spec xs bounds) = Each NameHolds xs × BoundsHold bounds
  DeclHolds (tree.Proc p result x formals body) = NameHolds x × Each FormalHolds formals × TreeHolds body
  DeclHolds (tree.Class c) = NameHolds c.name × Each GroupHolds c.groups

-- ---- typed trees: what is quoted in them

abbrev mutual
  pub NodeHolds : typed.Node → Type 0
  NodeHolds (typed.At p f g s k) = NodeKind k

  pub NodeKind : typed.Kind → Type 0
  NodeKind typed.Empty = ⊤
  NodeKind typed.Null = ⊤
  NodeKind (typed.Number n) = ⊤
  NodeKind (typed.Truth b) = ⊤
  NodeKind (typed.BitsLit b) = ⊤
  NodeKind (typed.Quoted s) = IsText s
  NodeKind (typed.Named x lists) = NodeLists lists
  NodeKind (typed.Negated a) = NodeHolds a
  NodeKind (typed.Abs a) = NodeHolds a
  NodeKind (typed.Signed minus a) = NodeHolds a
  NodeKind (typed.Chain a links) = NodeHolds a × NodeLinks links
  NodeKind (typed.Relation o a b) = NodeHolds a × NodeHolds b
  NodeKind (typed.IsClass a x q) = NodeHolds a
  NodeKind (typed.Assign a b) = NodeHolds a × NodeHolds b
  NodeKind (typed.IfThen c a b) = NodeHolds c × NodeHolds a × NodePerhaps b
  NodeKind (typed.CaseValue c values) = NodeHolds c × NodesHold values
  NodeKind (typed.CaseDo c parts) = NodeHolds c × NodesHold parts
  NodeKind (typed.ForStep x a step b body) = NodeHolds a × NodePerhaps step × NodeHolds b × NodeHolds body
  NodeKind (typed.ForList x values body) = NodesHold values × NodeHolds body
  NodeKind (typed.WhileDo c a) = NodeHolds c × NodeHolds a
  NodeKind (typed.Goto x) = ⊤
  NodeKind (typed.Assert c) = NodeHolds c
  NodeKind (typed.Block decls items) = NodeDecls decls × NodeItems items

  pub NodePerhaps : typed.Perhaps → Type 0
  NodePerhaps typed.Missing = ⊤
  NodePerhaps (typed.There a) = NodeHolds a

  pub NodesHold : typed.Nodes → Type 0
  NodesHold typed.no_nodes = ⊤
  NodesHold (typed.node_and a rest) = NodeHolds a × NodesHold rest

  pub NodeLinks : typed.Links → Type 0
  NodeLinks typed.no_links = ⊤
  NodeLinks (typed.link_and l rest) = NodeLink l × NodeLinks rest

  pub NodeLink : typed.Link → Type 0
  NodeLink (typed.Linked o q a) = NodeHolds a

  pub NodeLists : typed.Lists → Type 0
  NodeLists typed.no_lists = ⊤
  NodeLists (typed.list_and l rest) = NodeListing l × NodeLists rest

  pub NodeListing : typed.Listing → Type 0
  NodeListing (typed.OfActuals q actuals) = NodeActuals actuals
  NodeListing (typed.OfPart q a n) = NodeHolds a

  pub NodeActuals : typed.Actuals → Type 0
  NodeActuals typed.no_actuals = ⊤
  NodeActuals (typed.actual_and a rest) = NodeActual a × NodeActuals rest

  pub NodeActual : typed.Actual → Type 0
  NodeActual (typed.Star q) = ⊤
  NodeActual (typed.Given a) = NodeHolds a

  pub NodeItems : typed.Items → Type 0
  NodeItems typed.no_items = ⊤
  NodeItems (typed.item_and i rest) = NodeItem i × NodeItems rest

  pub NodeItem : typed.Item → Type 0
  NodeItem (typed.Labelled labels a) = NodeHolds a

  pub NodeBounds : typed.Bounds → Type 0
  NodeBounds typed.no_bounds = ⊤
  NodeBounds (typed.bound_and b rest) = NodeBound b × NodeBounds rest

  pub NodeBound : typed.Bound → Type 0
  NodeBound (typed.Between q a b) = NodeHolds a × NodeHolds b

  pub NodeDecls : typed.Decls → Type 0
  NodeDecls typed.no_decls = ⊤
  NodeDecls (typed.decl_and d rest) = NodeDecl d × NodeDecls rest

  pub NodeDecl : typed.Decl → Type 0
  NodeDecl (typed.Simple t xs) = ⊤
  NodeDecl (typed.Array t xs bounds) = NodeBounds bounds
  NodeDecl (typed.Proc p result x formals body) = NodeHolds body
  NodeDecl (typed.Class x groups) = ⊤

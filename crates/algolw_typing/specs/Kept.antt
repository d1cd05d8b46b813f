-- That the typed tree of a phrase forgets nothing of it: its names are tied to their declarations and its types to what they mean, and the rest is there.
use Rattle.std.specs.Prelude.{◌≡◌, ◌⊎◌, ⊤, List, [], ◌∷◌, Bool, true, false, Option, Some, None}
use Rattle.value_ops.specs.declared.places.Place.{Place}
use Rattle.algolw_tree.specs.Tree as tree
use Rattle.algolw_typing.specs.Types.{Gives, Statement}
use Rattle.algolw_typing.specs.Typed as typed
use Rattle.algolw_typing.specs.Scopes.{Scopes}
use Rattle.algolw_typing.specs.Typing.{typed_phrase}

-- where a node is counted as a statement, by what it gives and is: at its first token, where it is a statement, but an empty phrase nowhere,
-- and an assignment at the right of another not again, nor one that is a setting
abbrev pub counted_as : (is_right : Bool) → Place → Option Gives → typed.Kind → Option Place
counted_as r f (Some Statement) typed.Empty = None
counted_as true f (Some Statement) (typed.Assign a b) = None
counted_as r f (Some Statement) k = Some f
counted_as r f g k = None

-- an assignment to a name alone, which in a list may be a setting
abbrev pub IsSetting : tree.Phrase → Type 0
IsSetting (tree.At p f (tree.Assign (tree.At q e (tree.Named x tree.no_lists)) b)) = ⊤
IsSetting a = ⊥

-- names that are declared: each is there, by its place
abbrev pub KeepsDeclared : List tree.Placed → List typed.Placed → Type 0
KeepsDeclared [] [] = ⊤
KeepsDeclared (x ∷ xs) (d ∷ ds) = (d ≡ (x.1, x.1)) × KeepsDeclared xs ds
KeepsDeclared xs ds = ⊥

abbrev pub KeepsFormals : List tree.Formal → List typed.Formal → Type 0
KeepsFormals [] [] = ⊤
KeepsFormals (f ∷ fs) (g ∷ gs) = (g.mode ≡ f.mode) × (g.dimensions ≡ f.dimensions) × KeepsDeclared f.names g.names × KeepsFormals fs gs
KeepsFormals fs gs = ⊥

abbrev pub KeepsGroups : List (tree.TypeSpec × List tree.Placed) → List typed.Group → Type 0
KeepsGroups [] [] = ⊤
KeepsGroups (g ∷ gs) (h ∷ hs) = KeepsDeclared g.1 h.names × KeepsGroups gs hs
KeepsGroups gs hs = ⊥

-- A typed tree keeps a tree: place, first token, statement, literal, operator and every part are there; is_right where it is the right part of an assignment.
abbrev mutual
  pub Keeps : Bool → tree.Phrase → typed.Node → Type 0
  Keeps r (tree.At p f k) (typed.At q e g s l) = (q ≡ p) × (e ≡ f) × (s ≡ counted_as r f g l) × KeepsKind k l

  pub KeepsKind : tree.Kind → typed.Kind → Type 0
  KeepsKind tree.Empty typed.Empty = ⊤
  KeepsKind tree.Null typed.Null = ⊤
  KeepsKind (tree.Number n) (typed.Number m) = m ≡ n
  KeepsKind (tree.Truth b) (typed.Truth c) = c ≡ b
  KeepsKind (tree.BitsLit b) (typed.BitsLit c) = c ≡ b
  KeepsKind (tree.Quoted s) (typed.Quoted t) = t ≡ s
  KeepsKind (tree.Named x lists) (typed.Named d ls) = KeepsLists lists ls
  KeepsKind (tree.Negated a) (typed.Negated b) = Keeps false a b
  KeepsKind (tree.Abs a) (typed.Abs b) = Keeps false a b
  KeepsKind (tree.Signed minus a) (typed.Signed m b) = (m ≡ minus) × Keeps false a b
  KeepsKind (tree.Chain a links) (typed.Chain b ls) = Keeps false a b × KeepsLinks links ls
  KeepsKind (tree.Relation op a b) (typed.Relation o c d) = (o ≡ op) × Keeps false a c × Keeps false b d
  KeepsKind (tree.IsClass a x q) (typed.IsClass b d e) = (e ≡ q) × Keeps false a b
  KeepsKind (tree.Assign a b) (typed.Assign c d) = Keeps false a c × Keeps true b d
  KeepsKind (tree.IfThen c a b) (typed.IfThen d e g) = Keeps false c d × Keeps false a e × KeepsPerhaps b g
  KeepsKind (tree.CaseValue c values) (typed.CaseValue d vs) = Keeps false c d × KeepsPhrases values vs
  KeepsKind (tree.CaseDo c parts) (typed.CaseDo d ps) = Keeps false c d × KeepsPhrases parts ps
  KeepsKind (tree.ForStep x a step b body) (typed.ForStep d e st g bd) = Keeps false a e × KeepsPerhaps step st × Keeps false b g × Keeps false body bd
  KeepsKind (tree.ForList x values body) (typed.ForList d vs bd) = KeepsPhrases values vs × Keeps false body bd
  KeepsKind (tree.WhileDo c a) (typed.WhileDo d e) = Keeps false c d × Keeps false a e
  KeepsKind (tree.Goto x) (typed.Goto d) = ⊤
  KeepsKind (tree.Assert c) (typed.Assert d) = Keeps false c d
  KeepsKind (tree.Block decls items) (typed.Block ds is) = KeepsDecls decls ds × KeepsItems items is
  KeepsKind k l = ⊥

  pub KeepsPerhaps : tree.Perhaps → typed.Perhaps → Type 0
  KeepsPerhaps tree.Missing typed.Missing = ⊤
  KeepsPerhaps (tree.There a) (typed.There b) = Keeps false a b
  KeepsPerhaps a b = ⊥

  pub KeepsPhrases : tree.Phrases → typed.Nodes → Type 0
  KeepsPhrases tree.no_phrases typed.no_nodes = ⊤
  KeepsPhrases (tree.phrase_and a phrases) (typed.node_and b nodes) = Keeps false a b × KeepsPhrases phrases nodes
  KeepsPhrases _ _ = ⊥

  pub KeepsLinks : tree.Links → typed.Links → Type 0
  KeepsLinks tree.no_links typed.no_links = ⊤
  KeepsLinks (tree.link_and (tree.Linked op q a) links) (typed.link_and (typed.Linked o r b) ls) = (o ≡ op) × (r ≡ q) × Keeps false a b × KeepsLinks links ls
  KeepsLinks links ls = ⊥

  pub KeepsLists : tree.Lists → typed.Lists → Type 0
  KeepsLists tree.no_lists typed.no_lists = ⊤
  KeepsLists (tree.list_and (tree.OfActuals q actuals) lists) (typed.list_and (typed.OfActuals r as_) ls) = (r ≡ q) × KeepsActuals actuals as_ × KeepsLists lists ls
  KeepsLists (tree.list_and (tree.OfPart q a n) lists) (typed.list_and (typed.OfPart r b m) ls) = (r ≡ q) × Keeps false a b × (m ≡ n) × KeepsLists lists ls
  KeepsLists lists ls = ⊥

  pub KeepsActuals : tree.Actuals → typed.Actuals → Type 0
  KeepsActuals tree.no_actuals typed.no_actuals = ⊤
  KeepsActuals (tree.actual_and (tree.Star q) actuals) (typed.actual_and (typed.Star r) as_) = (r ≡ q) × KeepsActuals actuals as_
  KeepsActuals (tree.actual_and (tree.Given a) actuals) (typed.actual_and (typed.Given b) as_) = (Keeps false a b ⊎ IsSetting a × Keeps true a b) × KeepsActuals actuals as_
  KeepsActuals _ _ = ⊥

  pub KeepsItems : tree.Items → typed.Items → Type 0
  KeepsItems tree.no_items typed.no_items = ⊤
  KeepsItems (tree.item_and (tree.Labelled labels a) items) (typed.item_and (typed.Labelled ds b) is) = KeepsDeclared labels ds × Keeps false a b × KeepsItems items is
  KeepsItems items is = ⊥

  pub KeepsBounds : tree.Bounds → typed.Bounds → Type 0
  KeepsBounds tree.no_bounds typed.no_bounds = ⊤
  KeepsBounds (tree.bound_and (tree.Between q a b) bounds) (typed.bound_and (typed.Between r c d) bs) = (r ≡ q) × Keeps false a c × Keeps false b d × KeepsBounds bounds bs
  KeepsBounds _ _ = ⊥

  pub KeepsDecls : tree.Decls → typed.Decls → Type 0
  KeepsDecls tree.no_decls typed.no_decls = ⊤
  KeepsDecls (tree.decl_and d decls) (typed.decl_and e ds) = KeepsDecl d e × KeepsDecls decls ds
  KeepsDecls decls ds = ⊥

  pub KeepsDecl : tree.Decl → typed.Decl → Type 0
  KeepsDecl (tree.Simple spec xs) (typed.Simple t ds) = KeepsDeclared xs ds
  KeepsDecl (tree.Array spec xs bounds) (typed.Array t ds bs) = KeepsDeclared xs ds × KeepsBounds bounds bs
  KeepsDecl (tree.Proc p result x formals body) (typed.Proc q r d fs b) = (q ≡ p) × (d ≡ (x.1, x.1)) × KeepsFormals formals fs × Keeps false body b
  KeepsDecl (tree.Class c) (typed.Class d gs) = (d ≡ (c.name.1, c.name.1)) × KeepsGroups c.groups gs
  KeepsDecl d e = ⊥

abbrev pub NothingForgotten : Type 0
NothingForgotten = (path : Scopes) (x : tree.Phrase) → Keeps false x (typed_phrase path x).node

-- That a typed tree has a type at every node that wants one.
use Rattle.std.specs.Prelude.{◌≡◌, ◌⊎◌, ⊤, [], Option, Some}
use Rattle.value_ops.specs.declared.places.Place.{Place}
use Rattle.algolw_tree.specs.Tree.{Phrase}
use Rattle.algolw_typing.specs.Types.{Gives}
use Rattle.algolw_typing.specs.Typed as typed
use Rattle.algolw_typing.specs.Faults.{typed_program, program_faults}

abbrev pub HasType : Option Gives → Type 0
HasType g = (t : Gives) × (g ≡ Some t)

-- no list, or one that is no substring list
abbrev pub AtMostOneList : typed.Lists → Type 0
AtMostOneList typed.no_lists = ⊤
AtMostOneList (typed.list_and (typed.OfActuals q _) typed.no_lists) = ⊤
AtMostOneList lists = ⊥

-- a name alone, or with one list
abbrev pub StandsForMore : typed.Kind → Type 0
StandsForMore k = (d : Place) × (lists : typed.Lists) × (k ≡ typed.Named d lists) × AtMostOneList lists

-- Every node has a type, but for a name, alone or with one list, as an actual: it may stand for an array or a procedure.
abbrev mutual
  pub IsWhole : typed.Node → Type 0
  IsWhole (typed.At p f g s k) = HasType g × KindIsWhole k

  -- as an actual
  pub IsWholeActual : typed.Node → Type 0
  IsWholeActual (typed.At p f g s k) = (HasType g ⊎ StandsForMore k) × KindIsWhole k

  pub KindIsWhole : typed.Kind → Type 0
  KindIsWhole (typed.Named d lists) = ListsAreWhole lists
  KindIsWhole (typed.Negated a) = IsWhole a
  KindIsWhole (typed.Abs a) = IsWhole a
  KindIsWhole (typed.Signed minus a) = IsWhole a
  KindIsWhole (typed.Chain a links) = IsWhole a × LinksAreWhole links
  KindIsWhole (typed.Relation op a b) = IsWhole a × IsWhole b
  KindIsWhole (typed.IsClass a d q) = IsWhole a
  KindIsWhole (typed.Assign a b) = IsWhole a × IsWhole b
  KindIsWhole (typed.IfThen c a b) = IsWhole c × IsWhole a × PerhapsIsWhole b
  KindIsWhole (typed.CaseValue c values) = IsWhole c × AreWhole values
  KindIsWhole (typed.CaseDo c parts) = IsWhole c × AreWhole parts
  KindIsWhole (typed.ForStep d a step b body) = IsWhole a × PerhapsIsWhole step × IsWhole b × IsWhole body
  KindIsWhole (typed.ForList d values body) = AreWhole values × IsWhole body
  KindIsWhole (typed.WhileDo c a) = IsWhole c × IsWhole a
  KindIsWhole (typed.Assert c) = IsWhole c
  KindIsWhole (typed.Block decls items) = DeclsAreWhole decls × ItemsAreWhole items
  KindIsWhole k = ⊤

  pub PerhapsIsWhole : typed.Perhaps → Type 0
  PerhapsIsWhole typed.Missing = ⊤
  PerhapsIsWhole (typed.There a) = IsWhole a

  pub AreWhole : typed.Nodes → Type 0
  AreWhole typed.no_nodes = ⊤
  AreWhole (typed.node_and a nodes) = IsWhole a × AreWhole nodes

  pub LinksAreWhole : typed.Links → Type 0
  LinksAreWhole typed.no_links = ⊤
  LinksAreWhole (typed.link_and (typed.Linked op q a) links) = IsWhole a × LinksAreWhole links

  pub ListsAreWhole : typed.Lists → Type 0
  ListsAreWhole typed.no_lists = ⊤
  ListsAreWhole (typed.list_and (typed.OfActuals q actuals) lists) = ActualsAreWhole actuals × ListsAreWhole lists
  ListsAreWhole (typed.list_and (typed.OfPart q a n) lists) = IsWhole a × ListsAreWhole lists

  pub ActualsAreWhole : typed.Actuals → Type 0
  ActualsAreWhole typed.no_actuals = ⊤
  ActualsAreWhole (typed.actual_and (typed.Star q) actuals) = ActualsAreWhole actuals
  ActualsAreWhole (typed.actual_and (typed.Given a) actuals) = IsWholeActual a × ActualsAreWhole actuals

  pub ItemsAreWhole : typed.Items → Type 0
  ItemsAreWhole typed.no_items = ⊤
  ItemsAreWhole (typed.item_and (typed.Labelled labels a) items) = IsWhole a × ItemsAreWhole items

  pub BoundsAreWhole : typed.Bounds → Type 0
  BoundsAreWhole typed.no_bounds = ⊤
  BoundsAreWhole (typed.bound_and (typed.Between q a b) bounds) = IsWhole a × IsWhole b × BoundsAreWhole bounds

  pub DeclsAreWhole : typed.Decls → Type 0
  DeclsAreWhole typed.no_decls = ⊤
  DeclsAreWhole (typed.decl_and d decls) = DeclIsWhole d × DeclsAreWhole decls

  pub DeclIsWhole : typed.Decl → Type 0
  DeclIsWhole (typed.Array t xs bounds) = BoundsAreWhole bounds
  DeclIsWhole (typed.Proc q result x formals body) = IsWhole body
  DeclIsWhole d = ⊤

-- A program without faults has a type at every node that wants one.
abbrev pub TypesEverywhere : Type 0
TypesEverywhere = (x : Phrase) → program_faults x ≡ [] → IsWhole (typed_program x).node

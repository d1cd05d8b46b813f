-- That each phrase that counts a step when it is begun is a statement, and that each record class that is declared or follows IS is one of the
-- program's.
use Rattle.std.specs.Prelude.{◌≡◌, ⊤, List, map, filter, Option, Some, None, Bool, true, false}
use Rattle.value_ops.specs.declared.places.Place.{Place}
use Rattle.algolw_tree.specs.declared.standard.Standard.{Standard}
use Rattle.algolw_tree.specs.declared.standard.Standard.TheVariants as standard
use Rattle.algolw_typing.specs.Names.{Entry}
use Rattle.algolw_typing.specs.Types.{has}
use Rattle.algolw_typing.specs.Meanings.{Meaning, a_standard}
use Rattle.algolw_typing.specs.Scopes.{Known, standard_scope}
use Rattle.algolw_typing.specs.Typed as typed

-- a standard procedure has no value
abbrev pub is_procedure : Standard → Bool
is_procedure (standard.Function op) = false
is_procedure standard.MaxInteger = false
is_procedure (standard.Variable width) = false
is_procedure s = true

abbrev pub means_procedure : Option Meaning → Bool
means_procedure (Some (a_standard s)) = is_procedure s
means_procedure m = false

-- the standard procedures, by their places
abbrev pub standard_procedures : List Place
standard_procedures = map (λ e. e.place) (filter (λ (e : Entry Known). means_procedure e.is.means) standard_scope)

abbrev pub IsStatement : Option Place → Type 0
IsStatement None = ⊥
IsStatement (Some st) = ⊤

-- where it must be a statement
abbrev pub StatementIf : Bool → Option Place → Type 0
StatementIf true st = IsStatement st
StatementIf false st = ⊤

module _ (classes : List Place) where
  abbrev mutual
    pub Begun : typed.Node → Type 0
    Begun (typed.At p first g st k) = KindBegun st k

    pub KindBegun : Option Place → typed.Kind → Type 0
    KindBegun st (typed.Named x lists) = StatementIf (has standard_procedures x) st × ListsBegun lists
    KindBegun st (typed.Negated a) = Begun a
    KindBegun st (typed.Abs a) = Begun a
    KindBegun st (typed.Signed minus a) = Begun a
    KindBegun st (typed.Chain a links) = Begun a × LinksBegun links
    KindBegun st (typed.Relation o a b) = Begun a × Begun b
    KindBegun st (typed.IsClass a class q) = (has classes class ≡ true) × Begun a
    KindBegun st (typed.Assign a b) = Begun a × Begun b
    KindBegun st (typed.IfThen c a b) = Begun c × Begun a × PerhapsBegun b
    KindBegun st (typed.CaseValue c parts) = Begun c × AllBegun parts
    KindBegun st (typed.CaseDo c parts) = Begun c × AllBegun parts
    KindBegun st (typed.ForStep x a step b body) = IsStatement st × Begun a × PerhapsBegun step × Begun b × Begun body
    KindBegun st (typed.ForList x values body) = IsStatement st × AllBegun values × Begun body
    KindBegun st (typed.WhileDo c body) = IsStatement st × Begun c × Begun body
    KindBegun st (typed.Goto x) = IsStatement st
    KindBegun st (typed.Assert c) = IsStatement st × Begun c
    KindBegun st (typed.Block decls items) = DeclsBegun decls × ItemsBegun items
    KindBegun st k = ⊤

    pub PerhapsBegun : typed.Perhaps → Type 0
    PerhapsBegun typed.Missing = ⊤
    PerhapsBegun (typed.There a) = Begun a

    pub AllBegun : typed.Nodes → Type 0
    AllBegun typed.no_nodes = ⊤
    AllBegun (typed.node_and a rest) = Begun a × AllBegun rest

    pub LinksBegun : typed.Links → Type 0
    LinksBegun typed.no_links = ⊤
    LinksBegun (typed.link_and (typed.Linked o q a) rest) = Begun a × LinksBegun rest

    pub ListsBegun : typed.Lists → Type 0
    ListsBegun typed.no_lists = ⊤
    ListsBegun (typed.list_and (typed.OfActuals q actuals) rest) = ActualsBegun actuals × ListsBegun rest
    ListsBegun (typed.list_and (typed.OfPart q a n) rest) = Begun a × ListsBegun rest

    pub ActualsBegun : typed.Actuals → Type 0
    ActualsBegun typed.no_actuals = ⊤
    ActualsBegun (typed.actual_and (typed.Star q) rest) = ActualsBegun rest
    ActualsBegun (typed.actual_and (typed.Given a) rest) = Begun a × ActualsBegun rest

    pub ItemsBegun : typed.Items → Type 0
    ItemsBegun typed.no_items = ⊤
    ItemsBegun (typed.item_and (typed.Labelled labels a) rest) = Begun a × ItemsBegun rest

    pub BoundsBegun : typed.Bounds → Type 0
    BoundsBegun typed.no_bounds = ⊤
    BoundsBegun (typed.bound_and (typed.Between q a b) rest) = Begun a × Begun b × BoundsBegun rest

    pub DeclsBegun : typed.Decls → Type 0
    DeclsBegun typed.no_decls = ⊤
    DeclsBegun (typed.decl_and d rest) = DeclBegun d × DeclsBegun rest

    pub DeclBegun : typed.Decl → Type 0
    DeclBegun (typed.Array t xs bounds) = BoundsBegun bounds
    DeclBegun (typed.Proc p result x formals body) = Begun body
    DeclBegun (typed.Class x groups) = has classes x.0 ≡ true
    DeclBegun d = ⊤

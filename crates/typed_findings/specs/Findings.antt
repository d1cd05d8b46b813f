-- What checking finds of a typed tree, in the order in which it goes through it: what is found of a phrase stands behind what is found of its parts.
use Rattle.std.specs.Prelude.{ℕ, List, [], ◌∷◌, ◌++◌, Option, Some, None}
use Rattle.std.specs.Option.{option_map}
use Rattle.value_ops.specs.declared.places.Place.{Place}
use Rattle.algolw_typing.specs.Typed as typed
use Rattle.algolw_typing.specs.Types as types
use Rattle.algolw_typing.specs.Typing.{counted}
use Rattle.algolw_typing.specs.Verdicts.{Verdict, type_of}
use Rattle.typing_rules.specs.View.{classes_of}
use Rattle.typed_findings.specs.declared.finding.Finding.{Finding}
use Rattle.typed_findings.specs.declared.finding.Finding.TheVariants as finding

-- what a phrase gives and where it is counted, or the declaration of a name
pub data Found : Type 0 where
  Phrase : Option types.Gives → Option Place → Found
  Name : Place → Found

abbrev pub as_phrase : Option types.Gives → Option Place → Found
as_phrase g s = Phrase g s

-- a type that is written, where there is one
abbrev pub as_type : Option types.ValueType → Found
as_type t = Phrase (option_map types.Simple t) None

-- what is found of a phrase itself, by its verdict
abbrev pub own_finding : Place → Verdict → Found
own_finding first v = Phrase (type_of v) (counted first v)

abbrev pub gives_of : Found → Option types.Gives
gives_of (Phrase g s) = g
gives_of (Name p) = None

abbrev pub statement_of : Found → Option Place
statement_of (Phrase g s) = s
statement_of (Name p) = None

abbrev pub finding_view : Finding → Found
finding_view finding.Untyped = Phrase None None
finding_view finding.Statement = Phrase (Some types.Statement) None
finding_view (finding.Counted p) = Phrase (Some types.Statement) (Some p)
finding_view finding.Integer = as_type (Some types.Integer)
finding_view finding.Logical = as_type (Some types.Logical)
finding_view finding.Bits = as_type (Some types.Bits)
finding_view (finding.Str n) = as_type (Some (types.Str n))
finding_view (finding.Reference set) = as_type (Some (types.Reference (classes_of set)))
finding_view (finding.Name p) = Name p

-- the places of the statements that are counted
abbrev pub counted_places : List Found → List Place
counted_places [] = []
counted_places (Phrase g (Some p) ∷ xs) = p ∷ counted_places xs
counted_places (x ∷ xs) = counted_places xs

abbrev pub formals_found : List typed.Formal → List Found
formals_found [] = []
formals_found (f ∷ formals) = as_type f.type ∷ formals_found formals

abbrev pub groups_found : List typed.Group → List Found
groups_found [] = []
groups_found (g ∷ groups) = as_type (Some g.type) ∷ groups_found groups

abbrev mutual
  -- An empty phrase is always a statement that isn't counted: nothing is said of it.
  pub found_of : typed.Node → List Found
  found_of (typed.At p f g s typed.Empty) = []
  found_of (typed.At p f g s k) = found_of_kind k ++ Phrase g s ∷ []

  pub found_of_kind : typed.Kind → List Found
  found_of_kind (typed.Named d lists) = Name d ∷ found_of_lists lists
  found_of_kind (typed.Negated a) = found_of a
  found_of_kind (typed.Abs a) = found_of a
  found_of_kind (typed.Signed minus a) = found_of a
  found_of_kind (typed.Chain a links) = found_of a ++ found_of_links links
  found_of_kind (typed.Relation op a b) = found_of a ++ found_of b
  found_of_kind (typed.IsClass a d q) = found_of a ++ Name d ∷ []
  found_of_kind (typed.Assign a b) = found_of a ++ found_of b
  found_of_kind (typed.IfThen c a b) = found_of c ++ found_of a ++ found_of_perhaps b
  found_of_kind (typed.CaseValue c values) = found_of c ++ found_of_nodes values
  found_of_kind (typed.CaseDo c parts) = found_of c ++ found_of_nodes parts
  found_of_kind (typed.ForStep d a step b body) = found_of a ++ found_of_perhaps step ++ found_of b ++ found_of body
  found_of_kind (typed.ForList d values body) = found_of_nodes values ++ found_of body
  found_of_kind (typed.WhileDo c a) = found_of c ++ found_of a
  found_of_kind (typed.Goto d) = Name d ∷ []
  found_of_kind (typed.Assert c) = found_of c
  found_of_kind (typed.Block decls items) = found_of_decls decls ++ found_of_items items
  found_of_kind k = []

  pub found_of_perhaps : typed.Perhaps → List Found
  found_of_perhaps typed.Missing = []
  found_of_perhaps (typed.There a) = found_of a

  pub found_of_nodes : typed.Nodes → List Found
  found_of_nodes typed.no_nodes = []
  found_of_nodes (typed.node_and a nodes) = found_of a ++ found_of_nodes nodes

  pub found_of_links : typed.Links → List Found
  found_of_links typed.no_links = []
  found_of_links (typed.link_and (typed.Linked op q a) links) = found_of a ++ found_of_links links

  pub found_of_lists : typed.Lists → List Found
  found_of_lists typed.no_lists = []
  found_of_lists (typed.list_and (typed.OfActuals q actuals) lists) = found_of_actuals actuals ++ found_of_lists lists
  found_of_lists (typed.list_and (typed.OfPart q a n) lists) = found_of a ++ found_of_lists lists

  pub found_of_actuals : typed.Actuals → List Found
  found_of_actuals typed.no_actuals = []
  found_of_actuals (typed.actual_and (typed.Star q) actuals) = found_of_actuals actuals
  found_of_actuals (typed.actual_and (typed.Given a) actuals) = found_of a ++ found_of_actuals actuals

  pub found_of_items : typed.Items → List Found
  found_of_items typed.no_items = []
  found_of_items (typed.item_and (typed.Labelled labels a) items) = found_of a ++ found_of_items items

  pub found_of_bounds : typed.Bounds → List Found
  found_of_bounds typed.no_bounds = []
  found_of_bounds (typed.bound_and (typed.Between q a b) bounds) = found_of a ++ found_of b ++ found_of_bounds bounds

  pub found_of_decls : typed.Decls → List Found
  found_of_decls typed.no_decls = []
  found_of_decls (typed.decl_and d decls) = found_of_decl d ++ found_of_decls decls

  pub found_of_decl : typed.Decl → List Found
  found_of_decl (typed.Simple t xs) = as_type (Some t) ∷ []
  found_of_decl (typed.Array t xs bounds) = as_type (Some t) ∷ found_of_bounds bounds
  found_of_decl (typed.Proc p result x formals body) = as_type result ∷ formals_found formals ++ found_of body
  found_of_decl (typed.Class x groups) = groups_found groups

-- What the next findings say of a phrase: the typed tree that it is, and the findings behind them. Where those of a typed tree of the phrase
-- are next, it is that tree.
use Rattle.std.specs.Prelude.{List, [], ◌∷◌, Some, None}
use Rattle.value_ops.specs.declared.places.Place.{Place}
use Rattle.algolw_tree.specs.Tree as tree
use Rattle.algolw_typing.specs.ProgramView.{nowhere}
use Rattle.algolw_typing.specs.Typed as typed
use Rattle.algolw_typing.specs.Types.{Statement}
use Rattle.algolw_typing.specs.Typing.{declares_at, declare_at}
use Rattle.typed_findings.specs.Findings.{Found, Phrase, gives_of, statement_of}
use Rattle.typed_findings.specs.Taking.{first_found, name_of, rest_found, simple_type_of, type_of}

-- What is found of a phrase itself. Of an empty one nothing is said: it is a statement, but none that is counted.
abbrev pub own_taken : tree.Kind → List Found → Found × List Found
own_taken tree.Empty found = (Phrase (Some Statement) None, found)
own_taken k found = (first_found found, rest_found found)

-- ---- formals and groups of fields: their types are found, one by one

abbrev pub formal_taken : tree.Formal → List Found → typed.Formal × List Found
formal_taken f found = (record { type = type_of (first_found found); mode = f.mode; names = declare_at f.names; dimensions = f.dimensions }, rest_found found)

abbrev pub formals_taken : List tree.Formal → List Found → List typed.Formal × List Found
formals_taken [] found = ([], found)
formals_taken (f ∷ formals) found =
    let first = formal_taken f found in
    let more = formals_taken formals first.1 in
    (first.0 ∷ more.0, more.1)

abbrev pub group_taken : tree.TypeSpec × List tree.Placed → List Found → typed.Group × List Found
group_taken g found = (record { type = simple_type_of (first_found found); names = declare_at g.1 }, rest_found found)

abbrev pub groups_taken : List (tree.TypeSpec × List tree.Placed) → List Found → List typed.Group × List Found
groups_taken [] found = ([], found)
groups_taken (g ∷ groups) found =
    let first = group_taken g found in
    let more = groups_taken groups first.1 in
    (first.0 ∷ more.0, more.1)

abbrev pub class_taken : tree.ClassDecl → List Found → typed.Decl × List Found
class_taken c found = let groups = groups_taken c.groups found in (typed.Class (declares_at c.name) groups.0, groups.1)

-- ---- phrases

abbrev mutual
  pub node_taken : tree.Phrase → List Found → typed.Node × List Found
  node_taken (tree.At p f k) found =
      let kind = kind_taken p k found in
      let own = own_taken k kind.1 in
      (typed.At p f (gives_of own.0) (statement_of own.0) kind.0, own.1)

  -- a phrase of a kind that stands at a place
  pub kind_taken : Place → tree.Kind → List Found → typed.Kind × List Found
  kind_taken p tree.Empty found = (typed.Empty, found)
  kind_taken p tree.Null found = (typed.Null, found)
  kind_taken p (tree.Number n) found = (typed.Number n, found)
  kind_taken p (tree.Truth b) found = (typed.Truth b, found)
  kind_taken p (tree.BitsLit b) found = (typed.BitsLit b, found)
  kind_taken p (tree.Quoted s) found = (typed.Quoted s, found)
  kind_taken p (tree.Named x lists) found =
      let d = name_of (first_found found) in
      let ls = lists_taken lists (rest_found found) in
      (typed.Named d ls.0, ls.1)
  kind_taken p (tree.Negated a) found = let l = node_taken a found in (typed.Negated l.0, l.1)
  kind_taken p (tree.Abs a) found = let l = node_taken a found in (typed.Abs l.0, l.1)
  kind_taken p (tree.Signed minus a) found = let l = node_taken a found in (typed.Signed minus l.0, l.1)
  kind_taken p (tree.Chain a links) found =
      let l = node_taken a found in
      let ls = links_taken links l.1 in
      (typed.Chain l.0 ls.0, ls.1)
  kind_taken p (tree.Relation op a b) found =
      let l = node_taken a found in
      let r = node_taken b l.1 in
      (typed.Relation op l.0 r.0, r.1)
  kind_taken p (tree.IsClass a x q) found =
      let l = node_taken a found in
      (typed.IsClass l.0 (name_of (first_found l.1)) q, rest_found l.1)
  kind_taken p (tree.Assign a b) found =
      let l = node_taken a found in
      let r = node_taken b l.1 in
      (typed.Assign l.0 r.0, r.1)
  kind_taken p (tree.IfThen c a b) found =
      let condition = node_taken c found in
      let l = node_taken a condition.1 in
      let r = perhaps_taken b l.1 in
      (typed.IfThen condition.0 l.0 r.0, r.1)
  kind_taken p (tree.CaseValue c values) found =
      let l = node_taken c found in
      let vs = nodes_taken values l.1 in
      (typed.CaseValue l.0 vs.0, vs.1)
  kind_taken p (tree.CaseDo c parts) found =
      let l = node_taken c found in
      let ps = nodes_taken parts l.1 in
      (typed.CaseDo l.0 ps.0, ps.1)
  kind_taken p (tree.ForStep x a step b body) found =
      let l = node_taken a found in
      let s = perhaps_taken step l.1 in
      let r = node_taken b s.1 in
      let y = node_taken body r.1 in
      (typed.ForStep p l.0 s.0 r.0 y.0, y.1)
  kind_taken p (tree.ForList x values body) found =
      let vs = nodes_taken values found in
      let y = node_taken body vs.1 in
      (typed.ForList p vs.0 y.0, y.1)
  kind_taken p (tree.WhileDo c a) found =
      let l = node_taken c found in
      let r = node_taken a l.1 in
      (typed.WhileDo l.0 r.0, r.1)
  kind_taken p (tree.Goto x) found = (typed.Goto (name_of (first_found found)), rest_found found)
  kind_taken p (tree.Assert c) found = let l = node_taken c found in (typed.Assert l.0, l.1)
  kind_taken p (tree.Block decls items) found =
      let ds = decls_taken decls found in
      let is = items_taken items ds.1 in
      (typed.Block ds.0 is.0, is.1)

  pub perhaps_taken : tree.Perhaps → List Found → typed.Perhaps × List Found
  perhaps_taken tree.Missing found = (typed.Missing, found)
  perhaps_taken (tree.There a) found = let l = node_taken a found in (typed.There l.0, l.1)

  pub nodes_taken : tree.Phrases → List Found → typed.Nodes × List Found
  nodes_taken tree.no_phrases found = (typed.no_nodes, found)
  nodes_taken (tree.phrase_and a phrases) found =
      let first = node_taken a found in
      let more = nodes_taken phrases first.1 in
      (typed.node_and first.0 more.0, more.1)

  pub links_taken : tree.Links → List Found → typed.Links × List Found
  links_taken tree.no_links found = (typed.no_links, found)
  links_taken (tree.link_and l links) found =
      let first = link_taken l found in
      let more = links_taken links first.1 in
      (typed.link_and first.0 more.0, more.1)

  pub link_taken : tree.Link → List Found → typed.Link × List Found
  link_taken (tree.Linked op q a) found = let l = node_taken a found in (typed.Linked op q l.0, l.1)

  pub lists_taken : tree.Lists → List Found → typed.Lists × List Found
  lists_taken tree.no_lists found = (typed.no_lists, found)
  lists_taken (tree.list_and l lists) found =
      let first = listing_taken l found in
      let more = lists_taken lists first.1 in
      (typed.list_and first.0 more.0, more.1)

  pub listing_taken : tree.Listing → List Found → typed.Listing × List Found
  listing_taken (tree.OfActuals q actuals) found = let ls = actuals_taken actuals found in (typed.OfActuals q ls.0, ls.1)
  listing_taken (tree.OfPart q a n) found = let l = node_taken a found in (typed.OfPart q l.0 n, l.1)

  pub actuals_taken : tree.Actuals → List Found → typed.Actuals × List Found
  actuals_taken tree.no_actuals found = (typed.no_actuals, found)
  actuals_taken (tree.actual_and a actuals) found =
      let first = actual_taken a found in
      let more = actuals_taken actuals first.1 in
      (typed.actual_and first.0 more.0, more.1)

  pub actual_taken : tree.Actual → List Found → typed.Actual × List Found
  actual_taken (tree.Star q) found = (typed.Star q, found)
  actual_taken (tree.Given a) found = let l = node_taken a found in (typed.Given l.0, l.1)

  pub items_taken : tree.Items → List Found → typed.Items × List Found
  items_taken tree.no_items found = (typed.no_items, found)
  items_taken (tree.item_and i items) found =
      let first = item_taken i found in
      let more = items_taken items first.1 in
      (typed.item_and first.0 more.0, more.1)

  pub item_taken : tree.Item → List Found → typed.Item × List Found
  item_taken (tree.Labelled labels a) found = let l = node_taken a found in (typed.Labelled (declare_at labels) l.0, l.1)

  pub bounds_taken : tree.Bounds → List Found → typed.Bounds × List Found
  bounds_taken tree.no_bounds found = (typed.no_bounds, found)
  bounds_taken (tree.bound_and b bounds) found =
      let first = bound_taken b found in
      let more = bounds_taken bounds first.1 in
      (typed.bound_and first.0 more.0, more.1)

  pub bound_taken : tree.Bound → List Found → typed.Bound × List Found
  bound_taken (tree.Between q a b) found =
      let l = node_taken a found in
      let r = node_taken b l.1 in
      (typed.Between q l.0 r.0, r.1)

  pub decls_taken : tree.Decls → List Found → typed.Decls × List Found
  decls_taken tree.no_decls found = (typed.no_decls, found)
  decls_taken (tree.decl_and d decls) found =
      let first = decl_taken d found in
      let more = decls_taken decls first.1 in
      (typed.decl_and first.0 more.0, more.1)

  pub decl_taken : tree.Decl → List Found → typed.Decl × List Found
  decl_taken (tree.Simple spec xs) found = (typed.Simple (simple_type_of (first_found found)) (declare_at xs), rest_found found)
  decl_taken (tree.Array spec xs bounds) found =
      let bs = bounds_taken bounds (rest_found found) in
      (typed.Array (simple_type_of (first_found found)) (declare_at xs) bs.0, bs.1)
  decl_taken (tree.Proc p result x formals body) found =
      let fs = formals_taken formals (rest_found found) in
      let l = node_taken body fs.1 in
      (typed.Proc p (type_of (first_found found)) (declares_at x) fs.0 l.0, l.1)
  decl_taken (tree.Class c) found = class_taken c found

-- a phrase of a kind for which it does not matter where it stands: of any but a FOR
abbrev pub taken_anywhere : tree.Kind → List Found → typed.Kind × List Found
taken_anywhere k found = kind_taken nowhere k found

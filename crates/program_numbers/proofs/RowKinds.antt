-- The rows of phrases.
use Rattle.std.proofs.Common.{List, [], ◌∷◌, ◌++◌, map, refl, ap, ◌≡◌, append_assoc}
use Rattle.algolw_tree.specs.Grammar.{actuals_of, bounds_of, decls_of, items_of, links_of, lists_of, phrases_of}
use Rattle.algolw_tree.specs.Tree as tree
use Rattle.algolw_typing.specs.Known.{KnowsFormals, KnowsGroups}
use Rattle.algolw_typing.specs.Typed as typed
use Rattle.value_ops.specs.declared.places.Place.{Place}
use Rattle.program_numbers.specs.Numbered.{ActualsNumbered, BoundsNumbered, DeclsNumbered, ItemsNumbered, LinksNumbered, ListsNumbered, NodesNumbered}
use Rattle.program_numbers.specs.Onto.{actuals_onto, bounds_onto, decls_onto, items_onto, links_onto, lists_onto, nodes_onto}
use Rattle.program_numbers.specs.Taken.{formal_taken, formals_taken, group_taken, groups_taken, actual_taken, actuals_taken, bound_taken, bounds_taken, decl_taken, decls_taken, item_taken, items_taken, link_taken, links_taken, listing_taken, lists_taken, node_taken, nodes_taken}
use Rattle.program_numbers.specs.declared.numbering.Numbering.{Numbering}
use Rattle.program_numbers.proofs.RowsTaken.{Row}

-- with one part more behind the others
nodes_more : (xs : List typed.Node) (x : typed.Node) (w : typed.Nodes) → nodes_onto (xs ++ x ∷ []) w ≡ nodes_onto xs (typed.node_and x w)
nodes_more [] x w = refl
nodes_more (y ∷ xs) x w = ap (typed.node_and y) (nodes_more xs x w)

links_more : (xs : List typed.Link) (x : typed.Link) (w : typed.Links) → links_onto (xs ++ x ∷ []) w ≡ links_onto xs (typed.link_and x w)
links_more [] x w = refl
links_more (y ∷ xs) x w = ap (typed.link_and y) (links_more xs x w)

lists_more : (xs : List typed.Listing) (x : typed.Listing) (w : typed.Lists) → lists_onto (xs ++ x ∷ []) w ≡ lists_onto xs (typed.list_and x w)
lists_more [] x w = refl
lists_more (y ∷ xs) x w = ap (typed.list_and y) (lists_more xs x w)

actuals_more : (xs : List typed.Actual) (x : typed.Actual) (w : typed.Actuals) → actuals_onto (xs ++ x ∷ []) w ≡ actuals_onto xs (typed.actual_and x w)
actuals_more [] x w = refl
actuals_more (y ∷ xs) x w = ap (typed.actual_and y) (actuals_more xs x w)

items_more : (xs : List typed.Item) (x : typed.Item) (w : typed.Items) → items_onto (xs ++ x ∷ []) w ≡ items_onto xs (typed.item_and x w)
items_more [] x w = refl
items_more (y ∷ xs) x w = ap (typed.item_and y) (items_more xs x w)

bounds_more : (xs : List typed.Bound) (x : typed.Bound) (w : typed.Bounds) → bounds_onto (xs ++ x ∷ []) w ≡ bounds_onto xs (typed.bound_and x w)
bounds_more [] x w = refl
bounds_more (y ∷ xs) x w = ap (typed.bound_and y) (bounds_more xs x w)

decls_more : (xs : List typed.Decl) (x : typed.Decl) (w : typed.Decls) → decls_onto (xs ++ x ∷ []) w ≡ decls_onto xs (typed.decl_and x w)
decls_more [] x w = refl
decls_more (y ∷ xs) x w = ap (typed.decl_and y) (decls_more xs x w)

-- each row of parts in memory, which are seen by v
module _ {S : Type 0} where
  pub node_row : (v : S → tree.Phrase) → Row typed.no_nodes typed.node_and nodes_onto (λ ss. nodes_taken (phrases_of (map v ss))) (λ s. node_taken (v s))
  node_row v = record { onto_none = λ w. refl; onto_more = nodes_more; all_none = λ found. refl; all_more = λ s ss found. refl }

  pub link_row : (v : S → tree.Link) → Row typed.no_links typed.link_and links_onto (λ ss. links_taken (links_of (map v ss))) (λ s. link_taken (v s))
  link_row v = record { onto_none = λ w. refl; onto_more = links_more; all_none = λ found. refl; all_more = λ s ss found. refl }

  pub list_row : (v : S → tree.Listing) → Row typed.no_lists typed.list_and lists_onto (λ ss. lists_taken (lists_of (map v ss))) (λ s. listing_taken (v s))
  list_row v = record { onto_none = λ w. refl; onto_more = lists_more; all_none = λ found. refl; all_more = λ s ss found. refl }

  pub actual_row : (v : S → tree.Actual) → Row typed.no_actuals typed.actual_and actuals_onto (λ ss. actuals_taken (actuals_of (map v ss))) (λ s. actual_taken (v s))
  actual_row v = record { onto_none = λ w. refl; onto_more = actuals_more; all_none = λ found. refl; all_more = λ s ss found. refl }

  pub item_row : (v : S → tree.Item) → Row typed.no_items typed.item_and items_onto (λ ss. items_taken (items_of (map v ss))) (λ s. item_taken (v s))
  item_row v = record { onto_none = λ w. refl; onto_more = items_more; all_none = λ found. refl; all_more = λ s ss found. refl }

  pub bound_row : (v : S → tree.Bound) → Row typed.no_bounds typed.bound_and bounds_onto (λ ss. bounds_taken (bounds_of (map v ss))) (λ s. bound_taken (v s))
  bound_row v = record { onto_none = λ w. refl; onto_more = bounds_more; all_none = λ found. refl; all_more = λ s ss found. refl }

  pub decl_row : (v : S → tree.Decl) → Row typed.no_decls typed.decl_and decls_onto (λ ss. decls_taken (decls_of (map v ss))) (λ s. decl_taken (v s))
  decl_row v = record { onto_none = λ w. refl; onto_more = decls_more; all_none = λ found. refl; all_more = λ s ss found. refl }

  pub formal_row : (v : S → tree.Formal) → Row {W = List typed.Formal} [] (λ x xs. x ∷ xs) (λ xs w. xs ++ w) (λ ss. formals_taken (map v ss)) (λ s. formal_taken (v s))
  formal_row v = record { onto_none = λ w. refl; onto_more = λ xs x w. append_assoc xs (x ∷ []) w; all_none = λ found. refl; all_more = λ s ss found. refl }

  pub group_row : (v : S → tree.TypeSpec × List tree.Placed) → Row {W = List typed.Group} [] (λ x xs. x ∷ xs) (λ xs w. xs ++ w) (λ ss. groups_taken (map v ss)) (λ s. group_taken (v s))
  group_row v = record { onto_none = λ w. refl; onto_more = λ xs x w. append_assoc xs (x ∷ []) w; all_none = λ found. refl; all_more = λ s ss found. refl }

-- what stands behind some parts has its numbers where the whole has
module _ (n : Numbering) where
  pub nodes_behind : (xs : List typed.Node) (w : typed.Nodes) → NodesNumbered n (nodes_onto xs w) → NodesNumbered n w
  nodes_behind [] w h = h
  nodes_behind (x ∷ xs) w h = nodes_behind xs w h.1

  pub links_behind : (xs : List typed.Link) (w : typed.Links) → LinksNumbered n (links_onto xs w) → LinksNumbered n w
  links_behind [] w h = h
  links_behind (x ∷ xs) w h = links_behind xs w h.1

  pub lists_behind : (xs : List typed.Listing) (w : typed.Lists) → ListsNumbered n (lists_onto xs w) → ListsNumbered n w
  lists_behind [] w h = h
  lists_behind (x ∷ xs) w h = lists_behind xs w h.1

  pub actuals_behind : (xs : List typed.Actual) (w : typed.Actuals) → ActualsNumbered n (actuals_onto xs w) → ActualsNumbered n w
  actuals_behind [] w h = h
  actuals_behind (x ∷ xs) w h = actuals_behind xs w h.1

  pub items_behind : (xs : List typed.Item) (w : typed.Items) → ItemsNumbered n (items_onto xs w) → ItemsNumbered n w
  items_behind [] w h = h
  items_behind (x ∷ xs) w h = items_behind xs w h.1

  pub bounds_behind : (xs : List typed.Bound) (w : typed.Bounds) → BoundsNumbered n (bounds_onto xs w) → BoundsNumbered n w
  bounds_behind [] w h = h
  bounds_behind (x ∷ xs) w h = bounds_behind xs w h.1

  pub decls_behind : (xs : List typed.Decl) (w : typed.Decls) → DeclsNumbered n (decls_onto xs w) → DeclsNumbered n w
  decls_behind [] w h = h
  decls_behind (x ∷ xs) w h = decls_behind xs w h.1

-- what stands behind some formals or groups is known where all are
module _ (names classes : List Place) where
  pub formals_behind : (xs w : List typed.Formal) → KnowsFormals names classes (xs ++ w) → KnowsFormals names classes w
  formals_behind [] w h = h
  formals_behind (x ∷ xs) w h = formals_behind xs w h.2

  pub groups_behind : (xs w : List typed.Group) → KnowsGroups names classes (xs ++ w) → KnowsGroups names classes w
  groups_behind [] w h = h
  groups_behind (x ∷ xs) w h = groups_behind xs w h.2

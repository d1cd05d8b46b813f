-- Parts of a program in memory as the typed tree has them.
use Rattle.std.specs.Prelude.{ℕ, List, [], ◌∷◌, Option, Some, None}
use Rattle.std.specs.Borrow.{Bor}
use Rattle.value_ops.specs.declared.places.Place.{Place}
use Rattle.algolw_tree.specs.declared.programs.Node.{Node}
use Rattle.algolw_tree.specs.declared.programs.TypedActual.{TypedActual}
use Rattle.algolw_tree.specs.declared.programs.TypedBound.{TypedBound}
use Rattle.algolw_tree.specs.declared.programs.TypedDecl.{TypedDecl}
use Rattle.algolw_tree.specs.declared.programs.TypedItem.{TypedItem, Empty, Plain', Labelled'}
use Rattle.algolw_tree.specs.declared.programs.TypedLabelled.{TypedLabelled, TypedLabelled'}
use Rattle.algolw_tree.specs.declared.programs.TypedLink.{TypedLink}
use Rattle.algolw_tree.specs.declared.programs.TypedList.{TypedList}
use Rattle.algolw_tree.specs.declared.programs.TypedPart.{TypedPart}
use Rattle.algolw_typing.specs.Typed as typed
use Rattle.algolw_typing.specs.ProgramView.{Numbers, actual_view, at_view, decl_view, empty_view, kind_view, listing_view, node_view, part_view, targets_view}

-- a phrase that may be missing
abbrev pub perhaps_in : Numbers → Option (Bor Node) → typed.Perhaps
perhaps_in ns None = typed.Missing
perhaps_in ns (Some a) = typed.There (node_view ns a.now)

abbrev pub nodes_in : Numbers → List Node → typed.Nodes
nodes_in ns [] = typed.no_nodes
nodes_in ns (a ∷ rest) = typed.node_and (node_view ns a) (nodes_in ns rest)

abbrev pub parts_in : Numbers → List TypedPart → typed.Nodes
parts_in ns [] = typed.no_nodes
parts_in ns (p ∷ rest) = typed.node_and (part_view ns p) (parts_in ns rest)

abbrev pub links_in : Numbers → List TypedLink → typed.Links
links_in ns [] = typed.no_links
links_in ns (l ∷ rest) = typed.link_and (typed.Linked l.op l.place (node_view ns l.right)) (links_in ns rest)

abbrev pub lists_in : Numbers → List TypedList → typed.Lists
lists_in ns [] = typed.no_lists
lists_in ns (l ∷ rest) = typed.list_and (listing_view ns l.place l.kind) (lists_in ns rest)

abbrev pub actuals_in : Numbers → List TypedActual → typed.Actuals
actuals_in ns [] = typed.no_actuals
actuals_in ns (a ∷ rest) = typed.actual_and (actual_view ns a) (actuals_in ns rest)

-- the labels of an item
abbrev pub labels_before : TypedLabelled → List (ℕ × Place)
labels_before (TypedLabelled' labels q p f k g s) = labels.items

abbrev pub item_labels : TypedItem → List (ℕ × Place)
item_labels (Empty place) = []
item_labels (Plain' q p f k g s) = []
item_labels (Labelled' q l) = labels_before l

-- and what stands behind them
abbrev pub node_behind : Numbers → TypedLabelled → typed.Node
node_behind ns (TypedLabelled' labels q p f k g s) = at_view ns p f g s (kind_view ns k)

abbrev pub item_node : Numbers → TypedItem → typed.Node
item_node ns (Empty place) = empty_view place
item_node ns (Plain' q p f k g s) = at_view ns p f g s (kind_view ns k)
item_node ns (Labelled' q l) = node_behind ns l

abbrev pub items_in : Numbers → List TypedItem → typed.Items
items_in ns [] = typed.no_items
items_in ns (i ∷ rest) = typed.item_and (typed.Labelled (targets_view ns (item_labels i)) (item_node ns i)) (items_in ns rest)

abbrev pub bounds_in : Numbers → List TypedBound → typed.Bounds
bounds_in ns [] = typed.no_bounds
bounds_in ns (b ∷ rest) = typed.bound_and (typed.Between b.place (node_view ns b.lower) (node_view ns b.upper)) (bounds_in ns rest)

abbrev pub decls_in : Numbers → List TypedDecl → typed.Decls
decls_in ns [] = typed.no_decls
decls_in ns (d ∷ rest) = typed.decl_and (decl_view ns d) (decls_in ns rest)

-- Lists of parts before further ones.
use Rattle.std.specs.Prelude.{List, [], ◌∷◌}
use Rattle.algolw_typing.specs.Typed.{Node, Nodes, node_and, Link, Links, link_and, Listing, Lists, list_and, Actual, Actuals, actual_and, Item, Items, item_and, Bound, Bounds, bound_and, Decl, Decls, decl_and}

abbrev pub nodes_onto : List Node → Nodes → Nodes
nodes_onto [] rest = rest
nodes_onto (n ∷ ns) rest = node_and n (nodes_onto ns rest)

abbrev pub links_onto : List Link → Links → Links
links_onto [] rest = rest
links_onto (x ∷ xs) rest = link_and x (links_onto xs rest)

abbrev pub lists_onto : List Listing → Lists → Lists
lists_onto [] rest = rest
lists_onto (x ∷ xs) rest = list_and x (lists_onto xs rest)

abbrev pub actuals_onto : List Actual → Actuals → Actuals
actuals_onto [] rest = rest
actuals_onto (x ∷ xs) rest = actual_and x (actuals_onto xs rest)

abbrev pub items_onto : List Item → Items → Items
items_onto [] rest = rest
items_onto (x ∷ xs) rest = item_and x (items_onto xs rest)

abbrev pub bounds_onto : List Bound → Bounds → Bounds
bounds_onto [] rest = rest
bounds_onto (x ∷ xs) rest = bound_and x (bounds_onto xs rest)

abbrev pub decls_onto : List Decl → Decls → Decls
decls_onto [] rest = rest
decls_onto (x ∷ xs) rest = decl_and x (decls_onto xs rest)

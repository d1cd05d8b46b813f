-- What parts of phrases declare.
use Rattle.std.specs.Prelude.{List, ◌∷◌, map}
use Rattle.algolw_tree.specs.Tree as tree
use Rattle.algolw_typing.specs.Naming.{Naming, Frame, NamePath, nothing, and, scope_of, block_names, declares, inside, naming, actuals_naming, bounds_naming, decls_naming, items_naming}

abbrev pub listing_naming : Frame → NamePath → tree.Listing → Naming
listing_naming frame path (tree.OfActuals q actuals) = actuals_naming frame path actuals
listing_naming frame path (tree.OfPart q a n) = naming frame path a

abbrev pub actual_naming : Frame → NamePath → tree.Actual → Naming
actual_naming frame path (tree.Star p) = nothing
actual_naming frame path (tree.Given a) = naming frame path a

abbrev pub item_naming : Frame → NamePath → tree.Item → Naming
item_naming frame path (tree.Labelled labels a) = naming frame path a

abbrev pub block_naming : Frame → NamePath → tree.Decls → tree.Items → Naming
block_naming frame path decls items =
    let xs = block_names decls items in
    and (declares frame xs) (and (decls_naming (inside frame xs) path (scope_of xs ∷ path) decls) (items_naming (inside frame xs) (scope_of xs ∷ path) items))

-- what the bounds of a declaration declare, which none but an array's has, and those of each declaration
abbrev pub bound_notes : Frame → NamePath → tree.Decl → Naming
bound_notes frame around (tree.Array spec xs bounds) = bounds_naming frame around bounds
bound_notes frame around d = nothing

abbrev pub each_notes : Frame → NamePath → List tree.Decl → List Naming
each_notes frame around ds = map (bound_notes frame around) ds

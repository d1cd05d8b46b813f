-- The parts of a program in memory as the typed tree has them, and fields of a type as the tree has them.
use Rattle.std.specs.Prelude.{ℕ, List, Option, Some, None}
use Rattle.std.specs.declared.boxed.Box.{Box}
use Rattle.std.specs.declared.vec.Vec.{Vec}
use Rattle.std.specs.declared.alloc.Global.{Global}
use Rattle.value_ops.specs.declared.places.Place.{Place}
use Rattle.value_ops.specs.declared.values.SimpleType.{SimpleType}
use Rattle.algolw_tree.specs.declared.phrases.TypeSpec.{TypeSpec}
use Rattle.algolw_tree.specs.declared.programs.Node.{Node}
use Rattle.algolw_tree.specs.declared.programs.TypedLink.{TypedLink}
use Rattle.algolw_tree.specs.declared.programs.TypedList.{TypedList}
use Rattle.algolw_tree.specs.declared.programs.TypedBound.{TypedBound}
use Rattle.algolw_tree.specs.Tree as tree
use Rattle.algolw_tree.specs.View.{spec_tree}
use Rattle.algolw_typing.specs.Typed as typed
use Rattle.algolw_typing.specs.ProgramView.{Numbers, node_view, listing_view, type_view, targets_view}

-- a phrase that may be missing
abbrev pub perhaps_in : Numbers → Option (Box Node Global) → typed.Perhaps
perhaps_in ns None = typed.Missing
perhaps_in ns (Some a) = typed.There (node_view ns a.value)

abbrev pub link_in : Numbers → TypedLink → typed.Link
link_in ns l = typed.Linked l.op l.place (node_view ns l.right)

abbrev pub list_in : Numbers → TypedList → typed.Listing
list_in ns l = listing_view ns l.place l.kind

abbrev pub bound_in : Numbers → TypedBound → typed.Bound
bound_in ns b = typed.Between b.place (node_view ns b.lower) (node_view ns b.upper)

abbrev pub group_in : Numbers → SimpleType × Vec (ℕ × Place) Global → typed.Group
group_in ns g = record { type = type_view ns g.0; names = targets_view ns g.1.items }

abbrev pub group_tree : TypeSpec × Vec (List ℕ × Place) Global → tree.TypeSpec × List tree.Placed
group_tree g = (spec_tree g.0, g.1.items)

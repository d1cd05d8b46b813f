-- The parts of a procedure in memory, and of a phrase behind its labels.
use Rattle.std.proofs.Common.{◌≡◌, ℕ, Option, map, refl}
use Rattle.std.specs.Option.{option_map}
use Rattle.std.specs.declared.vec.Vec.{Vec}
use Rattle.std.specs.declared.alloc.Global.{Global}
use Rattle.std.specs.declared.boxed.Box.{Box}
use Rattle.value_ops.specs.declared.places.Place.{Place}
use Rattle.value_ops.specs.declared.values.SimpleType.{SimpleType}
use Rattle.algolw_tree.specs.declared.programs.Node.{Node}
use Rattle.algolw_tree.specs.declared.programs.TypedFormal.{TypedFormal}
use Rattle.algolw_tree.specs.declared.programs.TypedLabelled.{roll-TypedLabelled}
use Rattle.algolw_tree.specs.declared.programs.TypedProc.{roll-TypedProc}
use Rattle.algolw_typing.specs.ProgramView as program
use Rattle.algolw_typing.specs.ProgramView.{Numbers}
use Rattle.algolw_typing.specs.Typed as typed

pub procedure_in : (ns : Numbers) (place : Place) (t : Option SimpleType) (m : ℕ × Place) (fs : Vec TypedFormal Global) (x : Box Node Global)
    → program.procedure_view ns (roll-TypedProc (record { place = place; result = t; name = m; formals = fs; body = x })) ≡ typed.Proc place (option_map (program.type_view ns) t) (program.target_view ns m) (map (program.formal_view ns) fs.items) (program.node_view ns x.value)
unfolding roll-TypedProc denote.Hole.Carrier.roll
procedure_in ns place t m fs x = refl

pub labelled_in : (ns : Numbers) (ts : Vec (ℕ × Place) Global) (x : Box Node Global) → program.labelled_view ns (roll-TypedLabelled (record { labels = ts; phrase = x })) ≡ typed.Labelled (program.targets_view ns ts.items) (program.node_view ns x.value)
unfolding roll-TypedLabelled denote.Hole.Carrier.roll
labelled_in ns ts x = refl

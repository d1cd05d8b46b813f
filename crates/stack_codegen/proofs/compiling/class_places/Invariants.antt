use Rattle.std.proofs.Common.{◌≡◌, map, take}
use Rattle.algolw_tree.specs.declared.programs.NameInfo.{NameInfo}
use Rattle.algolw_typing.specs.ProgramView.{numbered}
use Rattle.stack_codegen.proofs.compiling.class_places.Given as goal

abbrev pub invariant-loop-name : goal.invariant-loop-name
invariant-loop-name l = l.places.items ≡ map (numbered (map (λ (i : NameInfo). i.place) l.names)) (take l.name-index l.class_names)

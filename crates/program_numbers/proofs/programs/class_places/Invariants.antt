use Rattle.std.proofs.Common.{◌≡◌, map, take}
use Rattle.typed_findings.specs.ClassView.{class_view}
use Rattle.program_numbers.proofs.programs.class_places.Given as goal

abbrev pub invariant-loop-class : goal.invariant-loop-class
invariant-loop-class l = l.places.items ≡ map (λ class. class.place) (map class_view (take l.class-index l.classes))

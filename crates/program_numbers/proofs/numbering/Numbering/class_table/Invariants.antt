use Rattle.std.proofs.Common.{map, take}
use Rattle.typed_findings.specs.ClassView.{class_view}
use Rattle.program_numbers.specs.HoldsClasses.{HoldsClasses, named_class}
use Rattle.program_numbers.proofs.numbering.Numbering.class_table.Given as goal

abbrev pub invariant-loop-class : goal.invariant-loop-class
invariant-loop-class l = HoldsClasses l.self l.table (map named_class (map class_view (take l.class-index l.classes)))

use Rattle.std.proofs.Common.{◌≡◌, map, take}
use Rattle.algolw_typing.specs.ProgramView.{numbered}
use Rattle.typed_findings.specs.ClassView.{class_view}
use Rattle.program_numbers.proofs.numbering.Numbering.class_names.Given as goal

abbrev pub invariant-loop-class : goal.invariant-loop-class
invariant-loop-class l = map (numbered l.self.names) l.numbers.items ≡ map (λ class. class.place) (map class_view (take l.class-index l.classes))

use Rattle.std.proofs.Common.{map, take}
use Rattle.typed_findings.specs.ClassView.{field_view}
use Rattle.program_numbers.specs.HoldsClasses.{field_in}
use Rattle.program_numbers.specs.Makes.{Makes}
use Rattle.program_numbers.proofs.numbering.Numbering.fields.Given as goal

abbrev pub invariant-loop-field : goal.invariant-loop-field
invariant-loop-field l = Makes l.self l.initial.table l.table (λ ns. map (field_in ns) l.made.items) (map field_view (take l.field-index l.fields))

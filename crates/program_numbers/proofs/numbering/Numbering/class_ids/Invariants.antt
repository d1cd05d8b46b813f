use Rattle.std.proofs.Common.{◌≡◌, take}
use Rattle.program_numbers.specs.Makes.{HasMembers, places_in}
use Rattle.program_numbers.proofs.numbering.Numbering.class_ids.Given as goal

abbrev pub invariant-loop-class : goal.invariant-loop-class
invariant-loop-class l = record {
  places : places_in l.self.classes l.ids.items ≡ take l.class-index l.classes;
  members : HasMembers l.self.classes l.ids.items;
}

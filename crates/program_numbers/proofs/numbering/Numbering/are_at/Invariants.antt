use Rattle.std.proofs.Common.{◌≡◌, length}
use Rattle.program_numbers.specs.Makes.{places_in}
use Rattle.program_numbers.proofs.numbering.Numbering.are_at.Given as goal

-- what is left of both decides, and as much is left of both
abbrev pub invariant-loop-id : goal.invariant-loop-id
invariant-loop-id l = record {
  decides : places_in l.self.classes l.id-iterator.a.rest.now ≡ l.id-iterator.b.rest.now → places_in l.self.classes l.ids ≡ l.places;
  as_long : length l.id-iterator.a.rest.now ≡ length l.id-iterator.b.rest.now;
}

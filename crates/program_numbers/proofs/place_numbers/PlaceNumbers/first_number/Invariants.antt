use Rattle.std.proofs.Common.{◌≡◌, drop, true}
use Rattle.algolw_typing.specs.Types.{has}
use Rattle.program_numbers.proofs.place_numbers.PlaceNumbers.first_number.Given as goal

abbrev pub invariant-loop-number : goal.invariant-loop-number
invariant-loop-number l = has (drop l.number l.self) l.place ≡ true

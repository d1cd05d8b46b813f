use Rattle.std.proofs.Common.{◌≡◌, map, take}
use Rattle.program_numbers.proofs.programs.name_places.Given as goal

abbrev pub invariant-loop-info : goal.invariant-loop-info
invariant-loop-info l = l.places.items ≡ map (λ info. info.place) (take l.info-index l.names)

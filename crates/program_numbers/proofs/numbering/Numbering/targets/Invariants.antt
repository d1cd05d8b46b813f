use Rattle.std.proofs.Common.{◌≡◌, map, take}
use Rattle.algolw_typing.specs.Typing.{declare_at}
use Rattle.program_numbers.specs.Makes.{target_in}
use Rattle.program_numbers.proofs.numbering.Numbering.targets.Given as goal

abbrev pub invariant-loop-name : goal.invariant-loop-name
invariant-loop-name l = map (target_in l.self) l.targets.items ≡ declare_at (take l.name-index l.names)

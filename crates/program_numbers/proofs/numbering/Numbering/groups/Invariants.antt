use Rattle.std.proofs.Common.{◌++◌, drop, map}
use Rattle.program_numbers.specs.ProgramParts.{group_in, group_tree}
use Rattle.program_numbers.specs.Taken.{groups_taken}
use Rattle.program_numbers.proofs.RowsTaken.{SoFar}
use Rattle.program_numbers.proofs.numbering.Numbering.groups.Given as goal

abbrev pub invariant-loop-group : goal.invariant-loop-group
invariant-loop-group l = SoFar l.self l.initial.table l.table (λ ns. map (group_in ns) l.made.items) (λ xs w. xs ++ w) (groups_taken (map group_tree l.groups) l.initial.found) (groups_taken (map group_tree (drop l.group-index l.groups)) l.found)

use Rattle.std.proofs.Common.{◌++◌, drop, map}
use Rattle.algolw_tree.specs.View.{formal_tree}
use Rattle.algolw_typing.specs.ProgramView as program
use Rattle.program_numbers.specs.Taken.{formals_taken}
use Rattle.program_numbers.proofs.RowsTaken.{SoFar}
use Rattle.program_numbers.proofs.numbering.Numbering.formals.Given as goal

abbrev pub invariant-loop-formal : goal.invariant-loop-formal
invariant-loop-formal l = SoFar l.self l.initial.table l.table (λ ns. map (program.formal_view ns) l.made.items) (λ xs w. xs ++ w) (formals_taken (map formal_tree l.formals) l.initial.found) (formals_taken (map formal_tree (drop l.formal-index l.formals)) l.found)

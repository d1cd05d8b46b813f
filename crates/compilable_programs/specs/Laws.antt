-- A program without faults may be compiled.
use Rattle.std.specs.Prelude.{◌≡◌, []}
use Rattle.algolw_tree.specs.Tree.{Phrase}
use Rattle.algolw_tree.specs.declared.programs.Program.{Program}
use Rattle.algolw_typing.specs.Faults.{program_faults}
use Rattle.algolw_typing.specs.Programs.{program_of}
use Rattle.algolw_typing.specs.ProgramView.{HoldsProgram}
use Rattle.faultless_programs.specs.Laws.{IsDeckTree, IsPlaced}
use Rattle.compilable_programs.specs.Compiled.{IsCompilable}

-- The program in memory that the tree of a deck without faults is may be compiled.
abbrev pub ProgramsWithoutFaultsAreCompilable : Type 0
ProgramsWithoutFaultsAreCompilable = (x : Phrase) (p : Program) → program_faults x ≡ [] → IsDeckTree x → IsPlaced x → HoldsProgram p (program_of x) → IsCompilable p (program_of x)

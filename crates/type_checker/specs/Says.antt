-- What checking says of a program.
use Rattle.std.specs.Prelude.{◌≡◌, ◌≢◌, [], take}
use Rattle.algolw_tree.specs.Tree.{Phrase}
use Rattle.algolw_typing.specs.Faults.{program_faults}
use Rattle.algolw_typing.specs.Programs.{program_of}
use Rattle.algolw_typing.specs.ProgramView.{HoldsProgram}
use Rattle.type_checker.specs.declared.checking.Checked.{Checked}
use Rattle.type_checker.specs.declared.checking.Checked.TheVariants.{Good, Bad}

-- it has no faults, and is this program; or it has faults, of which these are the first twenty
abbrev pub Says : Phrase → Checked → Type 0
Says x (Good p) = (program_faults x ≡ []) × HoldsProgram p (program_of x)
Says x (Bad faults) = (program_faults x ≢ []) × (faults.items ≡ take 20 (program_faults x))

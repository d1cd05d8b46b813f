-- The table's run of a typed program's code has the outcome of the program's meaning by environments.
use Rattle.program_meaning.specs.Translating.{program_phrase}
use Rattle.code_simulation.specs.Statement.{CodeDoesWhatTheTypedProgramDoes}
use Rattle.code_simulation.proofs.Program.{code_does_what_the_program_does}
use Rattle.code_simulation.proofs.Written.{program_written}

pub code_does_what_the_typed_program_does : CodeDoesWhatTheTypedProgramDoes
code_does_what_the_typed_program_does set n p = code_does_what_the_program_does set n (program_phrase p) (program_written p)

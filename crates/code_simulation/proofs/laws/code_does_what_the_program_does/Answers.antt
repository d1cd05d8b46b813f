use Rattle.code_simulation.proofs.Program.{code_does_what_the_program_does}
use Rattle.code_simulation.proofs.laws.code_does_what_the_program_does.Goals as goal

pub returns : goal.returns
returns c = code_does_what_the_program_does

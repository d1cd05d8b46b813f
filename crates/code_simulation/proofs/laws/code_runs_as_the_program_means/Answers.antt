use Rattle.code_simulation.proofs.Running.{code_runs_as_the_program_means}
use Rattle.code_simulation.proofs.laws.code_runs_as_the_program_means.Goals as goal

pub returns : goal.returns
returns c = code_runs_as_the_program_means

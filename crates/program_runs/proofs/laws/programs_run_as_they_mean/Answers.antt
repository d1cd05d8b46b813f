use Rattle.program_runs.proofs.Runs.{programs_run_as_they_mean}
use Rattle.program_runs.proofs.laws.programs_run_as_they_mean.Goals as goal

pub returns : goal.returns
returns c = programs_run_as_they_mean

use Rattle.program_meaning.proofs.Runs.{bounded_runs_end}
use Rattle.program_meaning.proofs.laws.bounded_runs_end.Goals as goal

pub returns : goal.returns
returns c = bounded_runs_end

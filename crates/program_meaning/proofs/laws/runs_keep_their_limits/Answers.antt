use Rattle.program_meaning.proofs.Runs.{runs_keep_their_limits}
use Rattle.program_meaning.proofs.laws.runs_keep_their_limits.Goals as goal

pub returns : goal.returns
returns c = runs_keep_their_limits

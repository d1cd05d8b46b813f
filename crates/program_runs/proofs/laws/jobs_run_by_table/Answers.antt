use Rattle.program_runs.proofs.Decks.{jobs_run_by_table}
use Rattle.program_runs.proofs.laws.jobs_run_by_table.Goals as goal

pub returns : goal.returns
returns c = jobs_run_by_table

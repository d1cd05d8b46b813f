use Rattle.program_runs.proofs.Decks.{batches_run_by_table}
use Rattle.program_runs.proofs.laws.batches_run_by_table.Goals as goal

pub returns : goal.returns
returns c = batches_run_by_table

use Rattle.deck_programs.proofs.Together.{trees_of_jobs}
use Rattle.deck_programs.proofs.laws.trees_of_jobs.Goals as goal

pub returns : goal.returns
returns c = trees_of_jobs

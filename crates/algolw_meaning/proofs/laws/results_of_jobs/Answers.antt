use Rattle.algolw_meaning.proofs.Results.{results_of_jobs}
use Rattle.algolw_meaning.proofs.laws.results_of_jobs.Goals as goal

pub returns : goal.returns
returns c = results_of_jobs

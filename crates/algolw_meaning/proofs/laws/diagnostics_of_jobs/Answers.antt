use Rattle.algolw_meaning.proofs.Composing.{diagnostics_of_jobs}
use Rattle.algolw_meaning.proofs.laws.diagnostics_of_jobs.Goals as goal

pub returns : goal.returns
returns c = diagnostics_of_jobs

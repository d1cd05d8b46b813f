use Rattle.algolw_meaning.proofs.Composing.{jobs_are_read}
use Rattle.algolw_meaning.proofs.laws.jobs_are_read.Goals as goal

pub returns : goal.returns
returns c = jobs_are_read

use Rattle.deck_reader.specs.JobEquality.{equal_jobs_are_same}
use Rattle.deck_reader.proofs.laws.equal_jobs_are_same.Goals as goal

pub returns : goal.returns
returns c = equal_jobs_are_same

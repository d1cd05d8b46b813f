use Rattle.deck_reader.proofs.Staying.{jobs_stay}
use Rattle.deck_reader.proofs.laws.jobs_stay.Goals as goal

pub returns : goal.returns
returns c = jobs_stay

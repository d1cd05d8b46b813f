use Rattle.batch_summary.proofs.Places.{tally_at_places}
use Rattle.batch_summary.proofs.laws.tally_by_sections.Goals as goal

pub returns : goal.returns
returns g c = tally_at_places

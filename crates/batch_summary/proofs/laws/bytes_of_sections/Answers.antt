use Rattle.batch_summary.proofs.Places.{bytes_at_places}
use Rattle.batch_summary.proofs.laws.bytes_of_sections.Goals as goal

pub returns : goal.returns
returns g c = bytes_at_places

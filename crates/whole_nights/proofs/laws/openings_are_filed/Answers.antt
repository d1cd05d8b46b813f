use Rattle.whole_nights.proofs.FiledParts.{openings_are_filed as law}
use Rattle.whole_nights.proofs.laws.openings_are_filed.Goals as goal

pub returns : goal.returns
returns c = law

use Rattle.listing_parts.proofs.Texts.{lines_once as law}
use Rattle.listing_parts.proofs.laws.lines_once.Goals as goal

pub returns : goal.returns
returns c = law

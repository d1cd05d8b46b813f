use Rattle.night_listings.proofs.Merging.{night_merged as law}
use Rattle.night_listings.proofs.laws.night_merged.Goals as goal

pub returns : goal.returns
returns c = law

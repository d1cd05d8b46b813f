use Rattle.night_listings.proofs.Parts.{part_listing as law}
use Rattle.night_listings.proofs.laws.part_listing.Goals as goal

pub returns : goal.returns
returns c = law

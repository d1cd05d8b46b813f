use Rattle.night_listings.proofs.Merging.{window_merged as law}
use Rattle.night_listings.proofs.laws.window_merged.Goals as goal

pub returns : goal.returns
returns c = law

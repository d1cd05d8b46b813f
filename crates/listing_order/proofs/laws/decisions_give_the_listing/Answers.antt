use Rattle.listing_order.proofs.Sections.{same_listing}
use Rattle.listing_order.proofs.laws.decisions_give_the_listing.Goals as goal

pub returns : goal.returns
returns c = same_listing

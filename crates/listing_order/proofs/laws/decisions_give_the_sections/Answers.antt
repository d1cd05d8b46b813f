use Rattle.listing_order.proofs.Sections.{same_sections}
use Rattle.listing_order.proofs.laws.decisions_give_the_sections.Goals as goal

pub returns : goal.returns
returns c = same_sections

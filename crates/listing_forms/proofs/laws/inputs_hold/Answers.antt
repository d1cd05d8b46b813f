use Rattle.listing_forms.proofs.Listings.{inputs_hold}
use Rattle.listing_forms.proofs.laws.inputs_hold.Goals as goal

pub returns : goal.returns
returns c = inputs_hold

use Rattle.listing_forms.proofs.Listings.{listings_have_form}
use Rattle.listing_forms.proofs.laws.listings_have_form.Goals as goal

pub returns : goal.returns
returns c = listings_have_form c.sections_have_form.ensures

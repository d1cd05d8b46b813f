use Rattle.listing_forms.proofs.Listings.{batches_are_apart}
use Rattle.listing_forms.proofs.laws.batches_are_apart.Goals as goal

pub returns : goal.returns
returns c = batches_are_apart c.sections_have_form.ensures

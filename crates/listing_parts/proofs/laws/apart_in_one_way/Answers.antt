use Rattle.listing_parts.proofs.Apart.{apart_in_one_way as law}
use Rattle.listing_parts.proofs.laws.apart_in_one_way.Goals as goal

pub returns : goal.returns
returns c = law

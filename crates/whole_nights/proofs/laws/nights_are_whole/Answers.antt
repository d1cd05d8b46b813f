use Rattle.whole_nights.proofs.Nights.{nights_are_whole}
use Rattle.whole_nights.proofs.laws.nights_are_whole.Goals as goal

pub returns : goal.returns
returns c = nights_are_whole c.parts_are_apart.ensures

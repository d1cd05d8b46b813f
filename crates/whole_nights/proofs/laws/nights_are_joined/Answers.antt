use Rattle.whole_nights.proofs.NightJoins.{nights_are_joined}
use Rattle.whole_nights.proofs.laws.nights_are_joined.Goals as goal

pub returns : goal.returns
returns c = nights_are_joined c.parts_are_apart.ensures

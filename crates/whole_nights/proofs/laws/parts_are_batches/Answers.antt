use Rattle.whole_nights.proofs.PartCards.{parts_are_batches as law}
use Rattle.whole_nights.proofs.laws.parts_are_batches.Goals as goal

pub returns : goal.returns
returns c = law

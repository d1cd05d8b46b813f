use Rattle.whole_nights.proofs.Said.{plans_are_said as law}
use Rattle.whole_nights.proofs.laws.plans_are_said.Goals as goal

pub returns : goal.returns
returns c = law

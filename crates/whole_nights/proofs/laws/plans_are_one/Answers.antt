use Rattle.whole_nights.proofs.PlanTexts.{plans_are_one as law}
use Rattle.whole_nights.proofs.laws.plans_are_one.Goals as goal

pub returns : goal.returns
returns c = law

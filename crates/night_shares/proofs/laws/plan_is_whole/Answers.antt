use Rattle.night_shares.proofs.PlanTexts.{plan_is_whole as law}
use Rattle.night_shares.proofs.laws.plan_is_whole.Goals as goal

pub returns : goal.returns
returns c = law

use Rattle.night_shares.proofs.PartLimits.{parts_fit as law}
use Rattle.night_shares.proofs.laws.parts_fit.Goals as goal

pub returns : goal.returns
returns c = law

use Rattle.std.proofs.Common.{decimal}
use Rattle.night_merge.proofs.plan.night_of.Goals as goal

pub returns-in_err-behind : goal.returns-in_err-behind
returns-in_err-behind c = λ chains few e. absurd (c.in_err-behind.ensures (decimal chains) e)

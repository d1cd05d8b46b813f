use Rattle.night_forms.proofs.Closings.{night_closes as law}
use Rattle.night_forms.proofs.laws.night_closes.Goals as goal

pub returns : goal.returns
returns c = law

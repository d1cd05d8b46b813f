use Rattle.night_forms.proofs.Closings.{balances_fall as law}
use Rattle.night_forms.proofs.laws.balances_fall.Goals as goal

pub returns : goal.returns
returns c = law

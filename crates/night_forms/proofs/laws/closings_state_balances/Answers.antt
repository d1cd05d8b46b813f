use Rattle.night_forms.proofs.Closings.{closings_state_balances as law}
use Rattle.night_forms.proofs.laws.closings_state_balances.Goals as goal

pub returns : goal.returns
returns c = law

use Rattle.night_forms.proofs.Joined.{window_joined as law}
use Rattle.night_forms.proofs.laws.window_joined.Goals as goal

pub returns : goal.returns
returns c = law

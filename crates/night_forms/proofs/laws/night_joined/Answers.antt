use Rattle.night_forms.proofs.Joined.{night_joined as law}
use Rattle.night_forms.proofs.laws.night_joined.Goals as goal

pub returns : goal.returns
returns c = law

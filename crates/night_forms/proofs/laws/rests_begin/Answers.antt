use Rattle.night_forms.proofs.Joined.{rests_begin as law}
use Rattle.night_forms.proofs.laws.rests_begin.Goals as goal

pub returns : goal.returns
returns c = law

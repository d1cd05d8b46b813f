use Rattle.night_forms.proofs.Joined.{parts_are_counted as law}
use Rattle.night_forms.proofs.laws.parts_are_counted.Goals as goal

pub returns : goal.returns
returns c = law

use Rattle.night_forms.proofs.Numbers.{number_comes_off as law}
use Rattle.night_forms.proofs.laws.number_comes_off.Goals as goal

pub returns : goal.returns
returns c = law

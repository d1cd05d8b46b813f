use Rattle.night_forms.proofs.Numbers.{numbers_come_off as law}
use Rattle.night_forms.proofs.laws.numbers_come_off.Goals as goal

pub returns : goal.returns
returns c = law

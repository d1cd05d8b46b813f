use Rattle.night_forms.proofs.Closings.{closings_are_lines as law}
use Rattle.night_forms.proofs.laws.closings_are_lines.Goals as goal

pub returns : goal.returns
returns c = law

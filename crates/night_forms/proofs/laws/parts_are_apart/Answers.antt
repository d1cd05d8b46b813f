use Rattle.night_forms.proofs.Parts.{parts_are_apart}
use Rattle.night_forms.proofs.laws.parts_are_apart.Goals as goal

pub returns : goal.returns
returns c = parts_are_apart c.sections_have_form.ensures

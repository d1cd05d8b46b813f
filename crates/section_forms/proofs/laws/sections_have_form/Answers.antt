use Rattle.section_forms.proofs.Sections.{sections_have_form}
use Rattle.section_forms.proofs.laws.sections_have_form.Goals as goal

pub returns : goal.returns
returns c = sections_have_form c.jobs_print_texts.ensures

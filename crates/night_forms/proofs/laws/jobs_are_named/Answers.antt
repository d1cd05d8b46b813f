use Rattle.night_forms.proofs.Named.{jobs_are_named as law}
use Rattle.night_forms.proofs.laws.jobs_are_named.Goals as goal

pub returns : goal.returns
returns c = law

use Rattle.night_forms.proofs.Closings.{idle_chains_keep as law}
use Rattle.night_forms.proofs.laws.idle_chains_keep.Goals as goal

pub returns : goal.returns
returns c = law

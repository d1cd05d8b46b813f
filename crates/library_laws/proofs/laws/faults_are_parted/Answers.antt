use Rattle.library_laws.proofs.Composed.{parted}
use Rattle.library_laws.proofs.laws.faults_are_parted.Goals as goal

pub returns : goal.returns
returns c = parted

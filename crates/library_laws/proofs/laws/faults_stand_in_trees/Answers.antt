use Rattle.library_laws.proofs.TreePlaces.{faults_stand}
use Rattle.library_laws.proofs.laws.faults_stand_in_trees.Goals as goal

pub returns : goal.returns
returns c = faults_stand

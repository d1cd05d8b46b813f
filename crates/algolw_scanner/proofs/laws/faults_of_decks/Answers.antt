use Rattle.algolw_scanner.proofs.Keeps.{faults_stand}
use Rattle.algolw_scanner.proofs.laws.faults_of_decks.Goals as goal

pub returns : goal.returns
returns c = faults_stand

use Rattle.algolw_scanner.proofs.Meaning.{means_it}
use Rattle.algolw_scanner.proofs.laws.faults_mean_it.Goals as goal

pub returns : goal.returns
returns c = means_it

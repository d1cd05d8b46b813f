use Rattle.library_laws.proofs.Composed.{trees}
use Rattle.library_laws.proofs.laws.library_keeps_its_trees.Goals as goal

pub returns : goal.returns
returns c = trees

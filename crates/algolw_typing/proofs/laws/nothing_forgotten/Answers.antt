use Rattle.algolw_typing.proofs.KeptTrees.{phrase_kept}
use Rattle.algolw_typing.proofs.laws.nothing_forgotten.Goals as goal

pub returns : goal.returns
returns c = phrase_kept

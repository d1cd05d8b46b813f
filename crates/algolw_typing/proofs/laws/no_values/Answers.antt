use Rattle.algolw_typing.proofs.NameTypes.{names_give}
use Rattle.algolw_typing.proofs.laws.no_values.Goals as goal

pub returns : goal.returns
returns c = names_give

use Rattle.algolw_typing.proofs.WholeTrees.{whole_program}
use Rattle.algolw_typing.proofs.laws.types_everywhere.Goals as goal

pub returns : goal.returns
returns c = whole_program

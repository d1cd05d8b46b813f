use Rattle.algolw_typing.proofs.Declarations.{declared_once}
use Rattle.algolw_typing.proofs.laws.one_declaration.Goals as goal

pub returns : goal.returns
returns c = declared_once

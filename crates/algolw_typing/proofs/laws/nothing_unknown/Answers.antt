use Rattle.algolw_typing.proofs.KnownPrograms.{nothing_is_unknown}
use Rattle.algolw_typing.proofs.laws.nothing_unknown.Goals as goal

pub returns : goal.returns
returns c = nothing_is_unknown

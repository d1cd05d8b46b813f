use Rattle.output_editing.proofs.Lays.{lines_never_fewer}
use Rattle.output_editing.proofs.laws.lines_are_never_fewer.Goals as goal

pub returns : goal.returns
returns c = lines_never_fewer

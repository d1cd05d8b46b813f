use Rattle.output_editing.proofs.Lays.{lines_stay}
use Rattle.output_editing.proofs.laws.lines_stay.Goals as goal

pub returns : goal.returns
returns c = lines_stay

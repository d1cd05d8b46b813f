use Rattle.output_editing.proofs.Cutting.{lines_are_cut}
use Rattle.output_editing.proofs.laws.lines_are_cut.Goals as goal

pub returns : goal.returns
returns c = lines_are_cut

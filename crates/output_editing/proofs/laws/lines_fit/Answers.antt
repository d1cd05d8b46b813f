use Rattle.output_editing.proofs.Within.{lines_fit}
use Rattle.output_editing.proofs.laws.lines_fit.Goals as goal

pub returns : goal.returns
returns c = lines_fit

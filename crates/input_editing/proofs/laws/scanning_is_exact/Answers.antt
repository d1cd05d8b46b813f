use Rattle.input_editing.proofs.ScanLaw.{scanning_is_exact}
use Rattle.input_editing.proofs.laws.scanning_is_exact.Goals as goal

pub returns : goal.returns
returns c = scanning_is_exact

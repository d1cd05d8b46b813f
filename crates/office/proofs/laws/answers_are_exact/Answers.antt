use Rattle.office.proofs.Exact.{exact}
use Rattle.office.proofs.laws.answers_are_exact.Goals as goal

pub returns : goal.returns
returns c = exact

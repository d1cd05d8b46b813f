use Rattle.account_shares.proofs.Statements.{own_input_statement as law}
use Rattle.account_shares.proofs.laws.own_input_statement.Goals as goal

pub returns : goal.returns
returns c = law

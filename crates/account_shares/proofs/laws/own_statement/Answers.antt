use Rattle.account_shares.proofs.Statements.{own_statement as law}
use Rattle.account_shares.proofs.laws.own_statement.Goals as goal

pub returns : goal.returns
returns c = law

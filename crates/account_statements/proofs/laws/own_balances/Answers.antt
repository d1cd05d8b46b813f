use Rattle.account_statements.proofs.Balances.{own_balances as law}
use Rattle.account_statements.proofs.laws.own_balances.Goals as goal

pub returns : goal.returns
returns c = law

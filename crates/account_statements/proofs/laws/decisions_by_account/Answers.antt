use Rattle.account_statements.proofs.Stating.{decisions_by_account as law}
use Rattle.account_statements.proofs.laws.decisions_by_account.Goals as goal

pub returns : goal.returns
returns c = law

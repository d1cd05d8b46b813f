use Rattle.account_statements.proofs.Balances.{results_by_content as law}
use Rattle.account_statements.proofs.laws.results_by_content.Goals as goal

pub returns : goal.returns
returns c = law

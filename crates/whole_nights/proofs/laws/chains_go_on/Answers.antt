use Rattle.whole_nights.proofs.ChainAccounts.{chains_go_on as law}
use Rattle.whole_nights.proofs.laws.chains_go_on.Goals as goal

pub returns : goal.returns
returns c = law

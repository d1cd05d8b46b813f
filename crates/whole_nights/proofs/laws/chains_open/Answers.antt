use Rattle.whole_nights.proofs.ChainAccounts.{chains_open as law}
use Rattle.whole_nights.proofs.laws.chains_open.Goals as goal

pub returns : goal.returns
returns c = law

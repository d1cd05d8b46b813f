use Rattle.night_shares.proofs.OfChains.{few_of_chain}
use Rattle.night_shares.proofs.laws.chains_fit.Goals as goal

pub returns : goal.returns
returns c = few_of_chain

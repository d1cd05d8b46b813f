use Rattle.account_shares.proofs.Again.{cards_are_plain as law}
use Rattle.account_shares.proofs.laws.cards_are_plain.Goals as goal

pub returns : goal.returns
returns c = law

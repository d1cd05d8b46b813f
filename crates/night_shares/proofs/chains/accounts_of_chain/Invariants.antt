use Rattle.std.proofs.Common.{◌≡◌, ◌++◌, drop}
use Rattle.night_shares.specs.Chains.{accounts_from, accounts_of_chain}
use Rattle.night_shares.proofs.chains.accounts_of_chain.Given as goal

-- what is taken and what is to come are all
abbrev pub invariant-loop-at : goal.invariant-loop-at
invariant-loop-at l = l.own.items ++ accounts_from l.chains l.chain l.at (drop l.at l.accounts) ≡ accounts_of_chain l.chains l.chain l.accounts

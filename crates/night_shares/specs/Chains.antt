-- The accounts of a chain.
use Rattle.std.specs.Prelude.{ℕ, ◌+◌, ◌==◌, List, [], ◌∷◌, if◌then◌else◌}
use Rattle.deck_reader.specs.declared.batch.Account.{Account}
use Rattle.night_shares.specs.Plan.{chain_of}

-- those of these accounts that are of a chain, where the first has this number
abbrev pub accounts_from : ℕ → ℕ → ℕ → List Account → List Account
accounts_from chains chain account [] = []
accounts_from chains chain account (a ∷ accounts) =
    if chain_of chains account == chain then a ∷ accounts_from chains chain (account + 1) accounts else accounts_from chains chain (account + 1) accounts

-- the accounts of a chain, in order
abbrev pub accounts_of_chain : ℕ → ℕ → List Account → List Account
accounts_of_chain chains chain accounts = accounts_from chains chain 0 accounts

-- The accounts files of chains.
use Rattle.std.specs.Prelude.{ℕ, ◌+◌, ◌≤◌, List, [], ◌∷◌, ◌++◌, Option}
use Rattle.deck_reader.specs.declared.batch.Account.{Account}
use Rattle.accounts_text.specs.Text.{AccountsList}
use Rattle.night_shares.specs.declared.shelf.NightFile.TheVariants.{Accounts}
use Rattle.night_shares.specs.Chains.{accounts_of_chain}
use Rattle.night_shares.specs.Filing.{Files, Filing}

-- these are the accounts files of the first chains, so many
pub data AreOpenings (chains : ℕ) (accounts : List Account) : ℕ → List Filing → Type 0 where
  no_more : AreOpenings chains accounts 0 []
  one_more : (count : ℕ) (some : List Filing) (text : List ℕ) → AreOpenings chains accounts count some → AccountsList text (accounts_of_chain chains count accounts)
      → AreOpenings chains accounts (count + 1) (some ++ record { file = Accounts (count + 1); text = text } ∷ [])

-- the accounts files of the first chains were filed, so many
pub record FilesOpenings (before now : Option (List Filing)) (chains : ℕ) (accounts : List Account) (count : ℕ) : Type 0 where
  pub filings : List Filing
  pub are : AreOpenings chains accounts count filings
  pub filed : Files before now filings

-- those of some first chains
pub record FilesSomeOpenings (before now : Option (List Filing)) (chains : ℕ) (accounts : List Account) : Type 0 where
  pub count : ℕ
  pub few : count ≤ chains
  pub some : FilesOpenings before now chains accounts count

-- A book as contracts see it.
use Rattle.std.specs.Prelude.{ℕ, List, map}
use Rattle.deck_reader.specs.declared.batch.Account.{Account}

-- the accounts, and the balance of each
pub record BookView : Type 0 where
  pub accounts : List Account
  pub balances : List ℕ

abbrev pub openings_of : List Account → List ℕ
openings_of accounts = map (λ a. a.opening) accounts

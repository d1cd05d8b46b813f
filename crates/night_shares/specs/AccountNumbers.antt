-- The numbers of accounts, by their names.
use Rattle.std.specs.BTreeMap.{BTreeMap, get}
use Rattle.std.specs.Prelude.{ℕ, ◌≡◌, List}
use Rattle.short_text.specs.Order.{bytes_cmp}
use Rattle.deck_reader.specs.declared.batch.Account.{Account}
use Rattle.deck_reader.specs.Batch.{account_of}

-- each name has the number of the first account of it
pub record Numbers (accounts : List Account) (numbers : BTreeMap (List ℕ) ℕ) : Type 0 where
  pub at : (name : List ℕ) → get bytes_cmp numbers name ≡ account_of accounts name

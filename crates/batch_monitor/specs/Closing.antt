-- The closing balances as a text.
use Rattle.std.specs.Prelude.{ℕ, List, Option}
use Rattle.std.specs.Io.KnownBytes.{Appends}
use Rattle.deck_reader.specs.declared.batch.Account.{Account}
use Rattle.deck_reader.specs.JobView.{JobView}
use Rattle.account_book.specs.BookView.{openings_of}
use Rattle.accounts_text.specs.Text.{AccountsList, AreAccounts}
use Rattle.batch_listing.specs.Listing.{closed_accounts}
use Rattle.batch_listing.specs.Writing.{AppendsPrefix}

-- where accounts are such as a text may state, so are they with their balances behind any jobs: closing balances can always be written
abbrev pub ClosedAreAccounts : Type 0
ClosedAreAccounts = (accounts : List Account) (jobs : List JobView) → AreAccounts accounts → AreAccounts (closed_accounts (openings_of accounts) jobs accounts)

-- a text was written that states the balances of these accounts behind these jobs
pub record StatesClosing (accounts : List Account) (jobs : List JobView) (closed closed' : Option (List ℕ)) : Type 0 where
  pub text : List ℕ
  pub states : AccountsList text (closed_accounts (openings_of accounts) jobs accounts)
  pub stated : Appends closed closed' text

-- a prefix of such a text was
pub record StatesClosingInPart (accounts : List Account) (jobs : List JobView) (closed closed' : Option (List ℕ)) : Type 0 where
  pub text : List ℕ
  pub states : AccountsList text (closed_accounts (openings_of accounts) jobs accounts)
  pub stated : AppendsPrefix closed closed' text

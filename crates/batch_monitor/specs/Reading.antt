-- How an accounts file is read.
use Rattle.std.specs.Prelude.{ℕ, ◌<◌, ◌⊎◌, List, Option, length}
use Rattle.std.specs.Io.KnownBytes.{Consumes, IsAtEnd}
use Rattle.accounts_text.specs.declared.reading.AccountsError.{AccountsError}
use Rattle.accounts_text.specs.declared.reading.AccountsError.TheVariants as error
use Rattle.batch_monitor.specs.declared.accounts.Unread.{Unread}
use Rattle.batch_monitor.specs.declared.accounts.Unread.TheVariants.{BadAccounts, NoMemory}

abbrev pub unread_of : AccountsError → Unread
unread_of error.BadAccounts = BadAccounts
unread_of error.NoMemory = NoMemory

-- a text was read so far that it is too long, or to its end
pub record HasText (left left' : Option (List ℕ)) (text : List ℕ) : Type 0 where
  pub read : Consumes left left' text
  pub enough : (65536 < length text) ⊎ IsAtEnd left'

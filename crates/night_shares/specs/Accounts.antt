-- The accounts of a night, by the kit's definition of TOML.
use Rattle.std.specs.Prelude.{◌≡◌, ◌≤◌, ◌<◌, ◌⊎◌, ℕ, true, List, Option, length, map, Some, IsUtf8}
use Rattle.std.specs.List.{list_all}
use Rattle.std.specs.List.Sorted.{IsStrictlySortedBy}
use Rattle.std.specs.Io.KnownBytes.{Consumes, IsAtEnd}
use Rattle.short_text.specs.Order.{bytes_cmp}
use Rattle.deck_reader.specs.declared.batch.Account.{Account}
use Rattle.toml.specs.Data.{Members}
use Rattle.toml.specs.Parse.{parse_document}
use Rattle.accounts_text.specs.declared.reading.AccountsError.{AccountsError}
use Rattle.accounts_text.specs.declared.reading.AccountsError.TheVariants as error
use Rattle.night_shares.specs.declared.stop.Stop.{Stop}
use Rattle.night_shares.specs.declared.stop.Stop.TheVariants.{BadAccounts, NoMemory}
use Rattle.accounts_text.specs.Text.{is_account, members_of, under_accounts}

abbrev pub stop_for : AccountsError → Stop
stop_for error.BadAccounts = BadAccounts
stop_for error.NoMemory = NoMemory

-- accounts, however many, each with a name of its own, in the order of their names' bytes
pub record AreNightAccounts (accounts : List Account) : Type 0 where
  pub each : list_all is_account accounts ≡ true
  pub ascend : IsStrictlySortedBy bytes_cmp (map (λ a. a.name) accounts)

-- a table of these members states these accounts
pub record StateNightAccounts (members : Members) (accounts : List Account) : Type 0 where
  pub same : members ≡ members_of accounts
  pub rules : AreNightAccounts accounts

-- a text in UTF-8 of at most 67,108,864 bytes that is a document, which states these accounts under the one key `accounts`
pub record NightAccountsText (bytes : List ℕ) (accounts : List Account) : Type 0 where
  pub short : length bytes ≤ 67108864
  pub utf8 : IsUtf8 bytes
  pub document : parse_document bytes ≡ Some (under_accounts (members_of accounts))
  pub rules : AreNightAccounts accounts

-- a text was read so far that it is too long, or to its end
pub record HasText (left left' : Option (List ℕ)) (text : List ℕ) : Type 0 where
  pub read : Consumes left left' text
  pub enough : (67108864 < length text) ⊎ IsAtEnd left'

-- a whole text was read, and it states these accounts
pub record HasAccounts (left left' : Option (List ℕ)) (accounts : List Account) : Type 0 where
  pub text : List ℕ
  pub read : Consumes left left' text
  pub to_end : IsAtEnd left'
  pub states : NightAccountsText text accounts

-- what was read of a text is too long whatever comes behind it, or is the whole text and states no accounts
pub record IsBadAccounts (left left' : Option (List ℕ)) : Type 0 where
  pub text : List ℕ
  pub read : Consumes left left' text
  pub bad : (67108864 < length text) ⊎ (IsAtEnd left' × ((accounts : List Account) → NightAccountsText text accounts → ⊥))

-- A text that states accounts, by the kit's definition of TOML.
use Rattle.std.specs.Prelude.{◌≡◌, ◌≤◌, ℕ, pos, Bool, true, false, ◌&&◌, ◌||◌, nat_le, List, [], ◌∷◌, length, map, codes, Some, IsUtf8}
use Rattle.std.specs.List.{list_all}
use Rattle.std.specs.List.Sorted.{IsStrictlySortedBy}
use Rattle.short_text.specs.Order.{bytes_cmp}
use Rattle.deck_reader.specs.declared.batch.Account.{Account}
use Rattle.deck_reader.specs.Forms.{is_digit}
use Rattle.toml.specs.Data.{integer, table, Members, no_members, member}
use Rattle.toml.specs.Parse.{parse_document}

-- a capital letter
abbrev pub is_capital : ℕ → Bool
is_capital c = nat_le 65 c && nat_le c 90

-- a capital letter, and at most 7 more capitals or digits
abbrev pub is_account_name : List ℕ → Bool
is_account_name [] = false
is_account_name (c ∷ cs) = is_capital c && (nat_le (length cs) 7 && list_all (λ d. is_capital d || is_digit d) cs)

-- an account with such a name, and with a balance of at most 999,999,999
abbrev pub is_account : Account → Bool
is_account account = is_account_name account.name && nat_le account.opening 999999999

-- at most 500 accounts, each with a name of its own, in the order of their names' bytes
pub record AreAccounts (accounts : List Account) : Type 0 where
  pub few : length accounts ≤ 500
  pub each : list_all is_account accounts ≡ true
  pub ascend : IsStrictlySortedBy bytes_cmp (map (λ a. a.name) accounts)

-- the names of these accounts as keys, each with its balance
abbrev pub members_of : List Account → Members
members_of [] = no_members
members_of (account ∷ accounts) = member account.name (integer (pos account.opening)) (members_of accounts)

-- the one key `accounts`, and at it a table of these members
abbrev pub under_accounts : Members → Members
under_accounts members = member (codes "accounts") (table members) no_members

-- a table of these members states these accounts
pub record StateAccounts (members : Members) (accounts : List Account) : Type 0 where
  pub same : members ≡ members_of accounts
  pub rules : AreAccounts accounts

-- a text in UTF-8 that is a document, which states these accounts under the one key `accounts`
pub record AccountsList (bytes : List ℕ) (accounts : List Account) : Type 0 where
  pub utf8 : IsUtf8 bytes
  pub document : parse_document bytes ≡ Some (under_accounts (members_of accounts))
  pub rules : AreAccounts accounts

-- such a text of at most 65,536 bytes
pub record AccountsText (bytes : List ℕ) (accounts : List Account) : Type 0 where
  pub short : length bytes ≤ 65536
  pub states : AccountsList bytes accounts

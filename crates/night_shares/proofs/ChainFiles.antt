-- The accounts files of chains, one after the other.
use Rattle.std.proofs.Common.{◌≡◌, ◌+◌, ◌<◌, ◌∷◌, ◌++◌, [], ℕ, List, length, Option, inl, inr, refl}
use Rattle.std.specs.Prelude.{◌⊎◌}
use Rattle.std.specs.Io.KnownBytes.{IsAtEnd}
use Rattle.deck_reader.specs.declared.batch.Account.{Account}
use Rattle.accounts_text.specs.Text.{AccountsList}
use Rattle.accounts_text.specs.declared.reading.AccountsError.{AccountsError}
use Rattle.accounts_text.specs.declared.reading.AccountsError.TheVariants.{BadAccounts, NoMemory}
use Rattle.night_shares.specs.declared.shelf.NightFile.TheVariants.{Accounts}
use Rattle.night_shares.specs.Accounts.{HasText, IsBadAccounts, NightAccountsText, stop_for}
use Rattle.night_shares.specs.Chains.{accounts_of_chain}
use Rattle.night_shares.specs.Filing.{Files, Filing}
use Rattle.night_shares.specs.Openings.{FilesOpenings, no_more, one_more}
use Rattle.night_shares.specs.Stops.{AccountsCause}
use Rattle.night_shares.proofs.Filings.{files_more, files_none, files_still}

pub none_filed : (now : Option (List Filing)) (chains : ℕ) (accounts : List Account) → FilesOpenings now now chains accounts 0
none_filed now chains accounts = record { filings = []; are = no_more; filed = files_none now }

pub next_filed : (before then now : Option (List Filing)) (chains : ℕ) (accounts : List Account) (count : ℕ) (text : List ℕ) → FilesOpenings before then chains accounts count
    → AccountsList text (accounts_of_chain chains count accounts) → Files then now (record { file = Accounts (count + 1); text = text } ∷ []) → FilesOpenings before now chains accounts (count + 1)
next_filed before then now chains accounts count text some states filed =
    let filing = record { file = Accounts (count + 1); text = text } ∷ [] in
    record { filings = some.filings ++ filing; are = one_more count some.filings text some.are states; filed = files_more before then now some.filings filing some.filed filed }

-- where nothing was filed since
pub still_filed : (before then now : Option (List Filing)) (chains : ℕ) (accounts : List Account) (count : ℕ) → FilesOpenings before then chains accounts count → Files then now []
    → FilesOpenings before now chains accounts count
still_filed before then now chains accounts count some still = record { filings = some.filings; are = some.are; filed = files_still before then now some.filings some.filed still }

-- ---- the accounts of a night

bad_by : (left left' : Option (List ℕ)) (text : List ℕ) → HasText left left' text → ((accounts : List Account) → NightAccountsText text accounts → ⊥) → IsBadAccounts left left'
bad_by left left' text has none = record { text = text; read = has.read; bad = by has.enough }
  where
    by : ((67108864 < length text) ⊎ IsAtEnd left') → (67108864 < length text) ⊎ (IsAtEnd left' × ((accounts : List Account) → NightAccountsText text accounts → ⊥))
    by (inl long) = inl long
    by (inr over) = inr (over, none)

pub bad_accounts : (error : AccountsError) (faults faults' : ℕ) (left left' : Option (List ℕ)) (text : List ℕ) → HasText left left' text
    → (error ≡ BadAccounts → (accounts : List Account) → NightAccountsText text accounts → ⊥) → AccountsCause (stop_for error) faults faults' (IsBadAccounts left left')
bad_accounts BadAccounts faults faults' left left' text has none = bad_by left left' text has (none refl)
bad_accounts NoMemory faults faults' left left' text has none = tt

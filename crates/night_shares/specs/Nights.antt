-- A night that is cut, from its accounts file and its cards.
use Rattle.std.specs.Prelude.{ℕ, ◌≡◌, ◌≤◌, ◌<◌, ◌*◌, ◌⊎◌, List, [], ◌∷◌, ◌++◌, Option, Some, length, ⊤}
use Rattle.batch_io.specs.Causes.{Rose}
use Rattle.deck_reader.specs.declared.batch.Account.{Account}
use Rattle.deck_reader.specs.Cards.{pieces}
use Rattle.night_shares.specs.declared.shelf.NightFile.TheVariants.{Plan}
use Rattle.night_shares.specs.declared.stop.Stop.{Stop}
use Rattle.night_shares.specs.declared.stop.Stop.TheVariants.{NoMemory, ReadFault, WriteFault, TooLarge, BadAccounts}
use Rattle.night_shares.specs.Accounts.{HasAccounts, IsBadAccounts}
use Rattle.night_shares.specs.Cutting.{IsTooLarge}
use Rattle.night_shares.specs.Filing.{Files, Filing, night_filings}
use Rattle.night_shares.specs.Held.{FilesFirst}
use Rattle.night_shares.specs.Openings.{AreOpenings}
use Rattle.night_shares.specs.Plan.{front_rows}

-- so many chains are as many as are wanted, at least one, and enough for each to have at most 500 of these accounts; and no fewer are
pub record AreEnough (wanted : ℕ) (accounts : List Account) (chains : ℕ) : Type 0 where
  pub wanted_are : wanted ≤ chains
  pub some : 0 < chains
  pub enough : length accounts ≤ 500 * chains
  pub least : (fewer : ℕ) → wanted ≤ fewer → 0 < fewer → length accounts ≤ 500 * fewer → chains ≤ fewer

-- all that is filed for a night with these accounts and cards: the plan's first lines, the accounts files of the chains, the parts of the windows with the
-- plan's lines of each, and the plan's last line
pub record IsCut (chains : ℕ) (accounts : List Account) (bytes : List ℕ) (filings : List Filing) : Type 0 where
  pub openings : List Filing
  pub are_openings : AreOpenings chains accounts chains openings
  pub whole : filings ≡ record { file = Plan; text = front_rows chains accounts } ∷ openings ++ night_filings chains accounts (pieces bytes)

-- a night was cut, which wasn't too large
pub record CutsNight (wanted : ℕ) (left left' cards : Option (List ℕ)) (before now : Option (List Filing)) : Type 0 where
  pub chains : ℕ
  pub accounts : List Account
  pub stated : HasAccounts left left' accounts
  pub enough : AreEnough wanted accounts chains
  pub fits : (bytes : List ℕ) → cards ≡ Some bytes → IsTooLarge accounts (pieces bytes) → ⊥
  pub filed : (bytes : List ℕ) → cards ≡ Some bytes → (filings : List Filing) × IsCut chains accounts bytes filings × Files before now filings

-- how much was filed where a night was cut in part: nothing; or the plan's first lines and the accounts files of some first chains; or all these, and what comes
-- first of the rest
pub data StopsNight (wanted : ℕ) (left left' cards : Option (List ℕ)) (before now : Option (List Filing)) : Type 0 where
  nothing : Files before now [] → StopsNight wanted left left' cards before now
  some_openings : (chains : ℕ) (accounts : List Account) (count : ℕ) (openings : List Filing) → HasAccounts left left' accounts → AreEnough wanted accounts chains → count ≤ chains
      → AreOpenings chains accounts count openings → Files before now (record { file = Plan; text = front_rows chains accounts } ∷ openings) → StopsNight wanted left left' cards before now
  some_windows : (chains : ℕ) (accounts : List Account) (openings : List Filing) (then : Option (List Filing)) → HasAccounts left left' accounts → AreEnough wanted accounts chains
      → AreOpenings chains accounts chains openings → Files before then (record { file = Plan; text = front_rows chains accounts } ∷ openings)
      → ((bytes : List ℕ) → cards ≡ Some bytes → FilesFirst then now (night_filings chains accounts (pieces bytes))) → StopsNight wanted left left' cards before now

-- why it was: a fault that was counted, an accounts file that is bad, or cards that are too large
abbrev pub NightCause : Stop → Option (List ℕ) → Option (List ℕ) → Option (List ℕ) → ℕ → ℕ → ℕ → ℕ → ℕ → ℕ → Type 0
NightCause NoMemory left left' cards stated stated' read read' filed filed' = ⊤
NightCause ReadFault left left' cards stated stated' read read' filed filed' = Rose stated stated' ⊎ Rose read read'
NightCause WriteFault left left' cards stated stated' read read' filed filed' = Rose filed filed'
NightCause TooLarge left left' cards stated stated' read read' filed filed' =
    (accounts : List Account) × HasAccounts left left' accounts × ((bytes : List ℕ) → cards ≡ Some bytes → IsTooLarge accounts (pieces bytes))
NightCause BadAccounts left left' cards stated stated' read read' filed filed' = IsBadAccounts left left'

-- A night that is cut, run in parts, and joined again.
use Rattle.std.specs.Prelude.{ℕ, ◌≡◌, ◌+◌, ◌-◌, ◌<◌, ◌^◌, List, ◌++◌, Option, Some, length}
use Rattle.deck_reader.specs.declared.batch.Account.{Account}
use Rattle.deck_reader.specs.Batch.{batch_with}
use Rattle.deck_reader.specs.Cards.{pieces}
use Rattle.accounts_text.specs.Text.{AccountsList}
use Rattle.batch_listing.specs.Listing.{closing_accounts_of, listing_with}
use Rattle.night_listings.specs.Nights.{night, night_listing}
use Rattle.night_merge.specs.declared.shelf.Part.{Part}
use Rattle.night_merge.specs.Nights.{IsNight, left_in, night_text}
use Rattle.night_merge.specs.Parts.{part_at}
use Rattle.night_merge.specs.Plan.{Plan, plan_text}
use Rattle.night_merge.specs.Texts.{balances_file}
use Rattle.night_shares.specs.Accounts.{AreNightAccounts}
use Rattle.night_shares.specs.Filing.{Filing, night_windows}
use Rattle.night_shares.specs.Laws.{filed_plan}
use Rattle.night_shares.specs.Nights.{IsCut}
use Rattle.whole_nights.specs.Joining.{StatesAccounts}
use Rattle.whole_nights.specs.Parts.{HasOpenings, filed_cards}

-- ---- what is run

-- The parts were run, each with its chain's accounts as the part before left them, and first as the chain's accounts file states them: these were the accounts of each
-- chain before each window, and the listing of each part that has cards, where it is known, is that of the cards with them. A part without cards leaves its accounts.
pub record AreRun (chains : ℕ) (filings : List Filing) (known : Part → Option (List ℕ)) (stated : ℕ → ℕ → List Account) : Type 0 where
  pub opened : (chain : ℕ) (text : List ℕ) → chain < chains → HasOpenings filings chain text → AccountsList text (stated chain 1)
  pub went_on : (chain number : ℕ) → chain < chains → 0 < number → stated chain (number + 1) ≡ closing_accounts_of (batch_with (Some (stated chain number)) (filed_cards filings chain number))
  pub listed : (chain number : ℕ) (listing : List ℕ) → chain < chains → 0 < number → 0 < length (filed_cards filings chain number) → known (part_at chain number) ≡ Some listing
      → listing ≡ listing_with (Some (stated chain number)) (filed_cards filings chain number)

-- ---- what is joined

-- what is written where a plan of this text and these listings are joined
abbrev pub Joins : List ℕ → (Part → Option (List ℕ)) → List ℕ → List ℕ → Type 0
Joins text known listing balances = (plan : Plan) (more : List ℕ) (rests : ℕ → ℕ → List (List ℕ)) (left : ℕ → ℕ → ℕ) → text ≡ plan_text plan ++ more → IsNight plan known rests left
    → (listing ≡ night_text plan rests (left_in plan left)) × (balances ≡ balances_file (left_in plan left) plan.accounts)

-- a night's numbers are small enough for its plan
pub record HasRoom (chains : ℕ) (accounts : List Account) (bytes : List ℕ) : Type 0 where
  pub some_chain : 0 < chains
  pub few_chains : chains < 2 ^ 32
  pub few_accounts : length accounts < 2 ^ 32 - 1
  pub few_windows : length (night_windows accounts (pieces bytes)) < 2 ^ 32 - 2
  pub few_stray : (night accounts bytes).stray < 2 ^ 64

-- a night that is cut, run in parts and joined again gives its listing, and the accounts of the next night
abbrev pub NightsAreWhole : Type 0
NightsAreWhole = (chains : ℕ) (accounts : List Account) (bytes : List ℕ) (filings : List Filing) (known : Part → Option (List ℕ)) (stated : ℕ → ℕ → List Account) (listing balances : List ℕ)
    → AreNightAccounts accounts → HasRoom chains accounts bytes → IsCut chains accounts bytes filings → AreRun chains filings known stated → Joins (filed_plan filings) known listing balances
    → (listing ≡ night_listing accounts bytes) × StatesAccounts balances (closing_accounts_of (night accounts bytes))

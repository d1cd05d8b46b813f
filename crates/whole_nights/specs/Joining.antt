-- A night joined from the listings of its parts.
use Rattle.std.specs.Prelude.{ℕ, ◌≡◌, ◌<◌, ◌≤◌, ◌-◌, ◌^◌, List, [], Option, Some, length, map, slice_index_or, take}
use Rattle.deck_reader.specs.declared.batch.Account.{Account}
use Rattle.deck_reader.specs.JobView.{JobView}
use Rattle.account_book.specs.BookView.{openings_of}
use Rattle.accounts_text.specs.Text.{members_of, under_accounts}
use Rattle.batch_listing.specs.Listing.{closing_accounts_of, listing_of}
use Rattle.night_forms.specs.Joining.{left_after}
use Rattle.night_listings.specs.Nights.{in_chain, jobs_of_windows, night, night_listing, part_of, rests_in}
use Rattle.night_merge.specs.declared.shelf.Part.{Part}
use Rattle.night_merge.specs.Nights.{IsNight, left_in, night_text}
use Rattle.night_merge.specs.Parts.{part_at}
use Rattle.night_merge.specs.Plan.{AreOpened}
use Rattle.night_merge.specs.Texts.{balances_file}
use Rattle.night_shares.specs.Accounts.{AreNightAccounts}
use Rattle.night_shares.specs.Plan.{chain_of}
use Rattle.toml.specs.Parse.{parse_document}
use Rattle.std.specs.List.{AllByRecursion}
use Rattle.whole_nights.specs.Plans.{AreAllListed, entries_of, plan_of}

-- what a night's plan says of its accounts and jobs has room in it
abbrev pub PlansAreSaid : Type 0
PlansAreSaid = (chains : ℕ) (accounts : List Account) (bytes : List ℕ) (windows : List (List JobView)) → 0 < chains → chains < 2 ^ 32 → AreNightAccounts accounts
    → (night accounts bytes).jobs ≡ jobs_of_windows windows → AreOpened accounts × AreAllListed (map (entries_of chains) windows)

-- the jobs of the windows before the one of this number, from 1
abbrev pub jobs_before : List (List JobView) → ℕ → List JobView
jobs_before windows number = jobs_of_windows (take (number - 1) windows)

-- those of that window
abbrev pub jobs_in_window : List (List JobView) → ℕ → List JobView
jobs_in_window windows number = slice_index_or windows (number - 1) []

-- what the sections of a part have behind their numbers, by the numbers of its window, from 1, and its chain, from 0
abbrev pub night_rests : ℕ → List Account → List (List JobView) → ℕ → ℕ → List (List ℕ)
night_rests chains accounts windows number chain =
    rests_in (in_chain (chain_of chains) chain) (openings_of accounts) (jobs_before windows number) (jobs_in_window windows number)

-- what each account has before a window
abbrev pub night_balances : List Account → List (List JobView) → ℕ → ℕ → ℕ
night_balances accounts windows number = left_after accounts (jobs_before windows number)

-- of each part that has a job, the listing that is known is its own, but for how many cards are stray in it
abbrev pub ArePartListings : ℕ → List Account → List (List JobView) → (Part → Option (List ℕ)) → Type 0
ArePartListings chains accounts windows known = (number chain : ℕ) (text : List ℕ) → 0 < number → number ≤ length windows → chain < chains
    → 0 < length (night_rests chains accounts windows number chain) → known (part_at chain number) ≡ Some text
    → (stray : ℕ) × (text ≡ listing_of (record (part_of (chain_of chains) chain accounts (jobs_before windows number) (jobs_in_window windows number)) { stray = stray }))

-- a text is a document that states these accounts of a night
pub record StatesAccounts (text : List ℕ) (accounts : List Account) : Type 0 where
  pub document : parse_document text ≡ Some (under_accounts (members_of accounts))
  pub rules : AreNightAccounts accounts

-- a night is small enough for a plan: it has fewer than 2^32 chains, and so on
pub record IsPlannable (chains : ℕ) (accounts : List Account) (windows : List (List JobView)) (stray : ℕ) : Type 0 where
  pub some_chain : 0 < chains
  pub few_chains : chains < 2 ^ 32
  pub few_accounts : length accounts < 2 ^ 32 - 1
  pub few_windows : length windows < 2 ^ 32 - 2
  pub few_jobs : AllByRecursion (λ jobs. length jobs ≤ 2000) windows
  pub few_stray : stray < 2 ^ 64

-- what is joined of a night's parts: its listing, and what its accounts are left with
pub record IsJoined (chains : ℕ) (accounts : List Account) (bytes : List ℕ) (windows : List (List JobView)) (known : Part → Option (List ℕ)) : Type 0 where
  pub is_night : IsNight (plan_of chains accounts windows (night accounts bytes).stray) known (night_rests chains accounts windows) (night_balances accounts windows)
  pub listing : night_text (plan_of chains accounts windows (night accounts bytes).stray) (night_rests chains accounts windows)
      (left_in (plan_of chains accounts windows (night accounts bytes).stray) (night_balances accounts windows)) ≡ night_listing accounts bytes
  pub balances : StatesAccounts (balances_file (left_in (plan_of chains accounts windows (night accounts bytes).stray) (night_balances accounts windows)) accounts)
      (closing_accounts_of (night accounts bytes))

-- a night's plan and the listings of its parts are joined to its listing
abbrev pub NightsAreJoined : Type 0
NightsAreJoined = (chains : ℕ) (accounts : List Account) (bytes : List ℕ) (windows : List (List JobView)) (known : Part → Option (List ℕ))
    → AreNightAccounts accounts → (night accounts bytes).jobs ≡ jobs_of_windows windows → IsPlannable chains accounts windows (night accounts bytes).stray
    → ArePartListings chains accounts windows known → IsJoined chains accounts bytes windows known

-- The parts of a night that is cut, as batches.
use Rattle.std.specs.Prelude.{ℕ, ◌≡◌, ◌+◌, ◌-◌, ◌<◌, ◌≤◌, ◌==◌, ◌&&◌, Contains, List, [], ◌++◌, Some, flat_map, if◌then◌else◌, length, map, slice_index_or}
use Rattle.deck_reader.specs.declared.batch.Account.{Account}
use Rattle.deck_reader.specs.Batch.{batch_with}
use Rattle.deck_reader.specs.Cards.{pieces}
use Rattle.deck_reader.specs.JobView.{JobView}
use Rattle.accounts_text.specs.Text.{AccountsList}
use Rattle.batch_listing.specs.Listing.{closing_accounts_of}
use Rattle.night_listings.specs.Nights.{part_of}
use Rattle.night_shares.specs.declared.shelf.NightFile.{NightFile}
use Rattle.night_shares.specs.declared.shelf.NightFile.TheVariants as file
use Rattle.night_shares.specs.Chains.{accounts_of_chain}
use Rattle.night_shares.specs.Filing.{Filing, night_libraries, night_windows}
use Rattle.night_shares.specs.Jobs.{NightJob, jobs_of_lines}
use Rattle.night_shares.specs.Nights.{IsCut}
use Rattle.night_shares.specs.Plan.{chain_of}
use Rattle.night_shares.specs.Windows.{jobs_of_chain, part_text}

-- the jobs of a window, without their lines
abbrev pub views_of : List NightJob → List JobView
views_of window = map (λ j. j.job) window

-- the accounts of a chain, with what they have left behind these jobs
abbrev pub accounts_then : ℕ → ℕ → List Account → List JobView → List Account
accounts_then chains chain accounts earlier = (part_of (chain_of chains) chain accounts earlier []).accounts

-- the cards of a part, with its chain's accounts as the earlier jobs leave them, are the batch of the part
abbrev pub PartsAreBatches : Type 0
PartsAreBatches = (chains chain : ℕ) (accounts : List Account) (bytes : List ℕ) (earlier window more : List NightJob) → jobs_of_lines accounts (pieces bytes) ≡ earlier ++ (window ++ more)
    → batch_with (Some (accounts_then chains chain accounts (views_of earlier))) (part_text (night_libraries accounts (pieces bytes)) (jobs_of_chain chains chain window))
    ≡ part_of (chain_of chains) chain accounts (views_of earlier) (views_of window)

-- a chain's accounts are first those of the chain's accounts file
abbrev pub ChainsOpen : Type 0
ChainsOpen = (chains chain : ℕ) (accounts : List Account) → accounts_then chains chain accounts [] ≡ accounts_of_chain chains chain accounts

-- and then those that each part leaves
abbrev pub ChainsGoOn : Type 0
ChainsGoOn = (chains chain : ℕ) (accounts : List Account) (earlier jobs : List JobView)
    → closing_accounts_of (part_of (chain_of chains) chain accounts earlier jobs) ≡ accounts_then chains chain accounts (earlier ++ jobs)

-- ---- by their numbers

-- the jobs that a window, numbered from 1, has of a chain
abbrev pub part_jobs : ℕ → List Account → List ℕ → ℕ → ℕ → List NightJob
part_jobs chains accounts bytes chain number = jobs_of_chain chains chain (slice_index_or (night_windows accounts (pieces bytes)) (number - 1) [])

-- the cards of what a window, numbered from 1, has of a chain, as they are filed
abbrev pub part_cards : ℕ → List Account → List ℕ → ℕ → ℕ → List ℕ
part_cards chains accounts bytes chain number = part_text (night_libraries accounts (pieces bytes)) (part_jobs chains accounts bytes chain number)

-- ---- what is filed

abbrev pub cards_piece : ℕ → ℕ → NightFile → List ℕ → List ℕ
cards_piece chain number file.Plan text = []
cards_piece chain number (file.Accounts other) text = []
cards_piece chain number (file.Cards part) text = if part.chain == chain + 1 && part.window == number then text else []

-- the texts that are filed as the cards of a part, one behind the other: there is at most one
abbrev pub filed_cards : List Filing → ℕ → ℕ → List ℕ
filed_cards filings chain number = flat_map (λ f. cards_piece chain number f.file f.text) filings

-- a text is filed as the accounts file of a chain
abbrev pub HasOpenings : List Filing → ℕ → List ℕ → Type 0
HasOpenings filings chain text = Contains filings (record { file = file.Accounts (chain + 1); text = text })

-- of each part its cards are filed
abbrev pub PartsAreFiled : Type 0
PartsAreFiled = (chains : ℕ) (accounts : List Account) (bytes : List ℕ) (filings : List Filing) (chain number : ℕ) → IsCut chains accounts bytes filings
    → chain < chains → 0 < number → number ≤ length (night_windows accounts (pieces bytes)) → filed_cards filings chain number ≡ part_cards chains accounts bytes chain number

-- and of each chain a text that states its accounts
abbrev pub OpeningsAreFiled : Type 0
OpeningsAreFiled = (chains : ℕ) (accounts : List Account) (bytes : List ℕ) (filings : List Filing) (chain : ℕ) → IsCut chains accounts bytes filings → chain < chains
    → (text : List ℕ) × HasOpenings filings chain text × AccountsList text (accounts_of_chain chains chain accounts)

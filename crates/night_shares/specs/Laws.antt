-- Laws on what is filed for a night: its windows are its jobs, each part is within the limits of a batch, and its plan is whole.
use Rattle.std.specs.Prelude.{ℕ, ◌≡◌, ◌≤◌, ◌<◌, ◌*◌, List, [], false, Contains, Some, flat_map, length, map}
use Rattle.deck_reader.specs.declared.batch.Account.{Account}
use Rattle.deck_reader.specs.Batch.{batch_with, too_large}
use Rattle.deck_reader.specs.Cards.{pieces}
use Rattle.night_shares.specs.declared.shelf.NightFile.{NightFile}
use Rattle.night_shares.specs.declared.shelf.NightFile.TheVariants.{Accounts, Cards, Plan}
use Rattle.night_shares.specs.Chains.{accounts_of_chain}
use Rattle.night_shares.specs.Cutting.{IsTooLarge}
use Rattle.night_shares.specs.Filing.{Filing, night_libraries, night_windows}
use Rattle.night_shares.specs.Jobs.{NightJob, jobs_of_lines, strays_of_lines}
use Rattle.night_shares.specs.Nights.{IsCut}
use Rattle.night_shares.specs.Plan.{plan_text}
use Rattle.night_shares.specs.Windows.{jobs_of_chain, part_text}

-- the jobs that are cut are those of the batch that all cards of the night are, however many
abbrev pub JobsAreTheNights : Type 0
JobsAreTheNights = (accounts : List Account) (bytes : List ℕ) → map (λ j. j.job) (jobs_of_lines accounts (pieces bytes)) ≡ (batch_with (Some accounts) bytes).jobs

-- the windows, one after the other, are the jobs, in order
abbrev pub WindowsAreTheJobs : Type 0
WindowsAreTheJobs = (accounts : List Account) (lines : List (List ℕ)) → flat_map (λ window. window) (night_windows accounts lines) ≡ jobs_of_lines accounts lines

-- where a night can be cut, each part is no larger than a batch may be: it has at most 4,194,304 bytes, and 2,000 jobs
abbrev pub PartsFit : Type 0
PartsFit = (chains chain : ℕ) (accounts : List Account) (bytes : List ℕ) (window : List NightJob) → (IsTooLarge accounts (pieces bytes) → ⊥)
    → Contains (night_windows accounts (pieces bytes)) window → too_large (part_text (night_libraries accounts (pieces bytes)) (jobs_of_chain chains chain window)) ≡ false

-- nor has it more accounts: with a chain for each 500 of the night's, each has at most 500
abbrev pub ChainsFit : Type 0
ChainsFit = (chains chain : ℕ) (accounts : List Account) → chain < chains → length accounts ≤ 500 * chains → length (accounts_of_chain chains chain accounts) ≤ 500

-- ---- the plan

abbrev pub plan_piece : NightFile → List ℕ → List ℕ
plan_piece Plan text = text
plan_piece (Accounts chain) text = []
plan_piece (Cards part) text = []

-- the texts that are filed for the plan, one behind the other
abbrev pub filed_plan : List Filing → List ℕ
filed_plan filings = flat_map (λ f. plan_piece f.file f.text) filings

-- all that is filed for the plan of a night is the plan of its accounts, its windows and its stray cards
abbrev pub PlanIsWhole : Type 0
PlanIsWhole = (chains : ℕ) (accounts : List Account) (bytes : List ℕ) (filings : List Filing) → IsCut chains accounts bytes filings
    → filed_plan filings ≡ plan_text chains accounts (map (map (λ j. j.job)) (night_windows accounts (pieces bytes))) (strays_of_lines accounts (pieces bytes))

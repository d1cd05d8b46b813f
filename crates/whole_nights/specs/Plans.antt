-- What the plan of a night says of its jobs, as the joining reads it.
use Rattle.std.specs.Prelude.{ℕ, ◌≡◌, List, [], ◌∷◌, Option, Some, None, flat_map, map, ⊤}
use Rattle.deck_reader.specs.declared.batch.Account.{Account}
use Rattle.deck_reader.specs.declared.batch.Flaw.{Flaw}
use Rattle.deck_reader.specs.JobView.{JobView}
use Rattle.night_merge.specs.declared.plan.Entry.{Entry}
use Rattle.night_merge.specs.declared.plan.Entry.TheVariants.{Job, Refused}
use Rattle.night_merge.specs.Plan.{AreListed, Plan}
use Rattle.night_merge.specs.Plan as merge
use Rattle.night_shares.specs.Plan.{chain_of}
use Rattle.night_shares.specs.Plan as shares

-- what the plan says of a job: its chain where it has an account, and else its flaw and names; nothing of a job that has neither, as no job of a night is
abbrev pub entries_by : ℕ → JobView → Option Flaw → Option ℕ → List Entry
entries_by chains job flaw (Some account) = Job (chain_of chains account) ∷ []
entries_by chains job (Some flaw) None = Refused flaw job.name job.account_name ∷ []
entries_by chains job None None = []

-- what it says of these jobs
abbrev pub entries_of : ℕ → List JobView → List Entry
entries_of chains jobs = flat_map (λ j. entries_by chains j j.flaw j.account) jobs

-- the plan of a night with so many chains, these accounts, its jobs in these windows, and so many stray cards
abbrev pub plan_of : ℕ → List Account → List (List JobView) → ℕ → Plan
plan_of chains accounts windows stray = record { chains = chains; accounts = accounts; windows = map (entries_of chains) windows; stray = stray }

-- its text is the one that is filed when the night is cut
abbrev pub PlansAreOne : Type 0
PlansAreOne = (chains : ℕ) (accounts : List Account) (windows : List (List JobView)) (stray : ℕ)
    → merge.plan_text (plan_of chains accounts windows stray) ≡ shares.plan_text chains accounts windows stray

-- what it says of windows has room in it
abbrev pub AreAllListed : List (List Entry) → Type 0
AreAllListed [] = ⊤
AreAllListed (entries ∷ windows) = AreListed entries × AreAllListed windows

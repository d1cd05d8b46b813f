-- A night of any length, its accounts divided into chains and its jobs into windows one after the other.
use Rattle.std.specs.Prelude.{ℕ, ◌+◌, ◌==◌, Bool, false, List, [], ◌∷◌, ◌++◌, Option, Some, None, map, codes, decimal, if◌then◌else◌}
use Rattle.deck_reader.specs.declared.batch.Account.{Account}
use Rattle.deck_reader.specs.declared.batch.Batch.{Batch}
use Rattle.deck_reader.specs.declared.batch.Flaw.{Flaw}
use Rattle.deck_reader.specs.JobView.{JobView}
use Rattle.deck_reader.specs.Batch.{batch_with}
use Rattle.account_book.specs.Places.{place_balance}
use Rattle.algolw_meaning.specs.Charging.{charged}
use Rattle.algolw_meaning.specs.Texts.{line}
use Rattle.batch_listing.specs.Listing.{body, listing_of, verdict}
use Rattle.batch_listing.specs.Texts.{flawed_line}
use Rattle.account_shares.specs.Shares.{night_behind, share_of}

-- a night: cards of any length, on accounts that are given, however many
abbrev pub night : List Account → List ℕ → Batch
night accounts bytes = batch_with (Some accounts) bytes

-- its listing is that of a batch, which knows no size
abbrev pub night_listing : List Account → List ℕ → List ℕ
night_listing accounts bytes = listing_of (night accounts bytes)

-- whether a payer is in a chain: its account is, by this division
abbrev pub in_chain : (ℕ → ℕ) → ℕ → Option ℕ → Bool
in_chain chain c None = false
in_chain chain c (Some account) = chain account == c

-- what a window has of a chain: the window's jobs of the chain's accounts, which open with what the earlier jobs have left
abbrev pub part_of : (ℕ → ℕ) → ℕ → List Account → List JobView → List JobView → Batch
part_of chain c accounts earlier jobs = share_of (in_chain chain c) (night_behind accounts earlier jobs)

-- ---- sections without their numbers

-- a section under this number
abbrev pub numbered : ℕ → List ℕ → List ℕ
numbered number rest = line [] ++ codes "JOB " ++ decimal number ++ rest

-- the names on a title
abbrev pub names : JobView → List ℕ
names job = line (codes " " ++ job.name ++ codes " " ++ job.account_name)

-- what the section of a job has behind its number, at its place behind these jobs
abbrev pub behind_number : List ℕ → List JobView → JobView → List ℕ
behind_number openings earlier job = names job ++ body (verdict (place_balance openings (map charged earlier)) job) job

-- the same of each of these jobs that is in a share
abbrev pub rests_in : (Option ℕ → Bool) → List ℕ → List JobView → List JobView → List (List ℕ)
rests_in own openings earlier [] = []
rests_in own openings earlier (job ∷ jobs) =
    if own job.account then behind_number openings earlier job ∷ rests_in own openings (earlier ++ job ∷ []) jobs
    else rests_in own openings (earlier ++ job ∷ []) jobs

-- sections under numbers from here
abbrev pub numbered_from : ℕ → List (List ℕ) → List ℕ
numbered_from number [] = []
numbered_from number (rest ∷ rests) = numbered number rest ++ numbered_from (number + 1) rests

-- ---- put together again

abbrev pub first_of : List (List ℕ) → List ℕ
first_of [] = []
first_of (rest ∷ rests) = rest

abbrev pub others_of : List (List ℕ) → List (List ℕ)
others_of [] = []
others_of (rest ∷ rests) = rests

-- the body of a job that is refused for a flaw
abbrev pub flaw_body : Option Flaw → List ℕ
flaw_body None = []
flaw_body (Some flaw) = flawed_line flaw

-- what a job's section has behind its number: the next one of its chain's, or, where it has no account, what its flaw says
abbrev pub taken : (ℕ → ℕ) → (ℕ → List (List ℕ)) → JobView → Option ℕ → List ℕ
taken chain supply job None = names job ++ flaw_body job.flaw
taken chain supply job (Some account) = first_of (supply (chain account))

-- what is left of each chain's then
abbrev pub left_behind : (ℕ → ℕ) → (ℕ → List (List ℕ)) → Option ℕ → ℕ → List (List ℕ)
left_behind chain supply None c = supply c
left_behind chain supply (Some account) c = if chain account == c then others_of (supply c) else supply c

-- the sections of these jobs, each under its own number, from what each chain has
abbrev pub merged : (ℕ → ℕ) → (ℕ → List (List ℕ)) → List JobView → List ℕ
merged chain supply [] = []
merged chain supply (job ∷ jobs) = numbered job.number (taken chain supply job job.account) ++ merged chain (left_behind chain supply job.account) jobs

-- the jobs of windows one after the other
abbrev pub jobs_of_windows : List (List JobView) → List JobView
jobs_of_windows [] = []
jobs_of_windows (window ∷ windows) = window ++ jobs_of_windows windows

-- the sections of windows one after the other, each put together from its chains
abbrev pub merged_windows : (ℕ → ℕ) → List ℕ → List JobView → List (List JobView) → List ℕ
merged_windows chain openings earlier [] = []
merged_windows chain openings earlier (window ∷ windows) =
    merged chain (λ c. rests_in (in_chain chain c) openings earlier window) window ++ merged_windows chain openings (earlier ++ window) windows

-- Some of a batch's accounts and their jobs, as a batch of their own has them.
use Rattle.std.specs.Prelude.{ℕ, zero, suc, ◌+◌, ◌==◌, Bool, List, [], ◌∷◌, ◌++◌, Option, Some, option_map, filter, flat_map, map, if◌then◌else◌}
use Rattle.deck_reader.specs.declared.batch.Account.{Account}
use Rattle.deck_reader.specs.declared.batch.Batch.{Batch}
use Rattle.deck_reader.specs.JobView.{JobView}
use Rattle.deck_reader.specs.Batch.{Front, Run, front_of, job_of, runs}
use Rattle.deck_reader.specs.Batch as batches
use Rattle.account_book.specs.BookView.{openings_of}
use Rattle.account_book.specs.Places.{place_balance}
use Rattle.algolw_meaning.specs.Charging.{charged}
use Rattle.batch_listing.specs.Listing.{body, closed_accounts, section, verdict}
use Rattle.batch_listing.specs.Texts.{closing_line, title}
use Rattle.account_shares.specs.Own.{job_cards, kept_library_cards, section_as}

-- how many account numbers below this one are in a share: the number that this one's account has there
abbrev pub number_in : (Option ℕ → Bool) → ℕ → ℕ
number_in own zero = 0
number_in own (suc account) = number_in own account + (if own (Some account) then 1 else 0)

-- those of these that have an account number in the share, where the first has this number
abbrev pub part_from : {X : Type 0} → (Option ℕ → Bool) → ℕ → List X → List X
part_from own account [] = []
part_from own account (x ∷ xs) = if own (Some account) then x ∷ part_from own (account + 1) xs else part_from own (account + 1) xs

-- whether a job is in the share: its account is, or those without one are
abbrev pub is_in : (Option ℕ → Bool) → JobView → Bool
is_in own job = own job.account

-- a job with this number, whose account has the number that it has in the share
abbrev pub as_in : (Option ℕ → Bool) → ℕ → JobView → JobView
as_in own number job = record job { number = number; account = option_map (number_in own) job.account }

-- the jobs, numbered from here, with the accounts' numbers in the share
abbrev pub numbered_in : (Option ℕ → Bool) → ℕ → List JobView → List JobView
numbered_in own number [] = []
numbered_in own number (job ∷ jobs) = as_in own number job ∷ numbered_in own (number + 1) jobs

-- the share's jobs, in order, numbered anew from 1
abbrev pub jobs_in : (Option ℕ → Bool) → List JobView → List JobView
jobs_in own jobs = numbered_in own 1 (filter (is_in own) jobs)

-- a batch of the share's accounts and jobs
abbrev pub share_of : (Option ℕ → Bool) → Batch → Batch
share_of own b = record { accounts = part_from own 0 b.accounts; jobs = jobs_in own b.jobs; stray = 0 }

-- ---- their cards, where a batch's accounts are given

-- whether a run's job is in the share
abbrev pub run_is_in : (Option ℕ → Bool) → Front → Run → Bool
run_is_in own front run = is_in own (job_of front 0 run.head (batches.body run))

-- the cards of the libraries, and of the share's jobs
abbrev pub cards_in : (Option ℕ → Bool) → List Account → List (List ℕ) → List (List ℕ)
cards_in own accounts cards = kept_library_cards cards ++ flat_map job_cards (filter (run_is_in own (front_of (Some accounts) cards)) (runs cards))

-- ---- what they have in the whole batch

-- the sections of the share's jobs among these, each at its place behind the earlier ones, with numbers from here
abbrev pub sections_in : (Option ℕ → Bool) → ℕ → List ℕ → List JobView → List JobView → List ℕ
sections_in own number openings earlier [] = []
sections_in own number openings earlier (job ∷ jobs) =
    if is_in own job then section_as number openings earlier job ++ sections_in own (number + 1) openings (earlier ++ job ∷ []) jobs
    else sections_in own number openings (earlier ++ job ∷ []) jobs

-- the closing lines of the share's accounts among these, where the first has this number
abbrev pub closing_in : (Option ℕ → Bool) → ℕ → List ℕ → List JobView → List Account → List ℕ
closing_in own account openings jobs [] = []
closing_in own account openings jobs (a ∷ accounts) =
    if own (Some account) then closing_line a (place_balance openings (map charged jobs) account) ++ closing_in own (account + 1) openings jobs accounts
    else closing_in own (account + 1) openings jobs accounts

-- ---- the whole from the shares of a division, which has a share for each account number, and one for the jobs without an account

-- the share that a payer is in
abbrev pub share_with : (Option ℕ → ℕ) → Option ℕ → Option ℕ → Bool
share_with division payer other = division other == division payer

-- what stands below a job's title in the batch of a share
abbrev pub body_in : (Option ℕ → Bool) → List ℕ → List JobView → JobView → List ℕ
body_in own openings earlier job = body (verdict (place_balance (part_from own 0 openings) (map charged (jobs_in own earlier))) (as_in own 1 job)) (as_in own 1 job)

-- the sections of these jobs behind the earlier ones, each from the batch of its share
abbrev pub divided_sections : (Option ℕ → ℕ) → List ℕ → List JobView → List JobView → List ℕ
divided_sections division openings earlier [] = []
divided_sections division openings earlier (job ∷ jobs) =
    (title job ++ body_in (share_with division job.account) openings earlier job) ++ divided_sections division openings (earlier ++ job ∷ []) jobs

-- ---- one after the other

-- the sections of these jobs at their places, behind the earlier ones
abbrev pub sections_after : List ℕ → List JobView → List JobView → List ℕ
sections_after openings earlier [] = []
sections_after openings earlier (job ∷ jobs) = section openings earlier job ++ sections_after openings (earlier ++ job ∷ []) jobs

-- a batch of later jobs, whose accounts open with what the earlier ones leave
abbrev pub night_behind : List Account → List JobView → List JobView → Batch
night_behind accounts earlier jobs = record { accounts = closed_accounts (openings_of accounts) earlier accounts; jobs = jobs; stray = 0 }

-- The cards and sections of one account's jobs.
use Rattle.std.specs.Prelude.{ℕ, ◌+◌, Bool, List, [], ◌∷◌, ◌++◌, Some, filter, if◌then◌else◌, flat_map, map, Option, None, slice_index, take}
use Rattle.std.specs.List.{filter_map}
use Rattle.std.specs.Option.{option_map}
use Rattle.deck_reader.specs.JobView.{JobView}
use Rattle.deck_reader.specs.Cards.{cards}
use Rattle.deck_reader.specs.Forms.{is_control_card, library_card}
use Rattle.deck_reader.specs.Named.{first_by_name}
use Rattle.deck_reader.specs.Batch.{Front, Run, runs, runs_by, job_of, front_of, before_head}
use Rattle.deck_reader.specs.Batch as batches
use Rattle.account_book.specs.OwnJobs.{as_own, is_of, own_jobs}
use Rattle.account_book.specs.Places.{place_balance}
use Rattle.algolw_meaning.specs.Charging.{charged}
use Rattle.batch_listing.specs.Listing.{body, verdict}
use Rattle.batch_listing.specs.Texts.{title}

-- the cards of a run's job: its head, and those behind it up to the first end card
abbrev pub job_cards : Run → List (List ℕ)
job_cards run = run.head ∷ batches.body run

-- whether the account with this number is that of a run's job
abbrev pub runs_on : Front → ℕ → Run → Bool
runs_on front account run = is_of account (job_of front 0 run.head (batches.body run))

-- all cards of a run
abbrev pub run_cards : Run → List (List ℕ)
run_cards run = run.head ∷ run.behind

-- the run of a control card with the name of the library that it begins, where it begins one
abbrev pub named_run : Run → Option (List ℕ × Run)
named_run run = option_map (λ name. (name, run)) (library_card run.head)

-- the runs of control cards whose libraries are kept: the first 20 that have the form and a new name
abbrev pub kept_runs : List Run → List (List ℕ × Run)
kept_runs controls = take 20 (first_by_name (λ n. n.0) (filter_map named_run controls))

-- the cards of a batch's libraries, with those that begin them: they are no account's, and cost nothing
abbrev pub kept_library_cards : List (List ℕ) → List (List ℕ)
kept_library_cards cards = flat_map (λ n. run_cards n.1) (kept_runs (runs_by is_control_card (before_head cards)))

-- the cards of the batch's libraries, and of the account's jobs
abbrev pub own_cards : ℕ → List (List ℕ) → List (List ℕ)
own_cards account cards = kept_library_cards cards ++ flat_map job_cards (filter (runs_on (front_of None cards) account) (runs cards))

-- ---- the sections that they have in the batch

-- the section of a job at its place, behind these jobs, with this number in its title
abbrev pub section_as : ℕ → List ℕ → List JobView → JobView → List ℕ
section_as number openings earlier job = title (record job { number = number }) ++ body (verdict (place_balance openings (map charged earlier)) job) job

-- the sections of the account's jobs among these, each at its place behind the earlier ones, with numbers from here
abbrev pub own_sections : ℕ → ℕ → List ℕ → List JobView → List JobView → List ℕ
own_sections account number openings earlier [] = []
own_sections account number openings earlier (job ∷ jobs) =
    if is_of account job then section_as number openings earlier job ++ own_sections account (number + 1) openings (earlier ++ job ∷ []) jobs
    else own_sections account number openings (earlier ++ job ∷ []) jobs

-- ---- its bytes

-- cards with a carriage return and a line feed behind each, so that each is read again as it is
abbrev pub text_of : List (List ℕ) → List ℕ
text_of cards = flat_map (λ c. c ++ 13 ∷ 10 ∷ []) cards

-- an input of a card that opens the account, the cards of the libraries, and those of its jobs
abbrev pub own_text : List ℕ → ℕ → List ℕ → List ℕ
own_text card account bytes = text_of (card ∷ own_cards account (cards bytes))

-- ---- the sections of the whole, from those of its accounts

-- what stands below a job's title, from its account's share; a job without an account needs no balance
abbrev pub shared_body : Option ℕ → List ℕ → List JobView → JobView → List ℕ
shared_body None openings earlier job = body (verdict (λ _. 0) job) job
shared_body (Some account) openings earlier job = body (verdict (place_balance (slice_index openings account ∷ []) (map charged (own_jobs account earlier))) (as_own 1 job)) (as_own 1 job)

-- the sections of these jobs behind the earlier ones, each from its account's share
abbrev pub merged_sections : List ℕ → List JobView → List JobView → List ℕ
merged_sections openings earlier [] = []
merged_sections openings earlier (job ∷ jobs) = (title job ++ shared_body job.account openings earlier job) ++ merged_sections openings (earlier ++ job ∷ []) jobs

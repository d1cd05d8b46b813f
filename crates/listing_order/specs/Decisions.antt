-- The listing of a batch by what a list of events decides. Only whether a decision is in the list is asked, and nothing of the order in which the events come.
use Rattle.std.specs.Prelude.{ℕ, ◌+◌, ◌-◌, ◌++◌, ◌&&◌, ◌==◌, Bool, false, if◌then◌else◌, List, [], Option, Some, None, flat_map, length, slice_index, sum_by, take}
use Rattle.std.specs.List.{enumerate_from, list_any}
use Rattle.deck_reader.specs.declared.batch.Account.{Account}
use Rattle.deck_reader.specs.declared.batch.Batch.{Batch}
use Rattle.deck_reader.specs.declared.batch.Flaw.{Flaw}
use Rattle.deck_reader.specs.JobView.{JobView}
use Rattle.account_book.specs.BookView.{openings_of}
use Rattle.account_book.specs.Charges.{charge, reserve}
use Rattle.account_book.specs.Places.{is_on}
use Rattle.algolw_meaning.specs.Running.{job_result}
use Rattle.batch_core.specs.declared.event.Event.{Event}
use Rattle.batch_core.specs.declared.event.Event.TheVariants.{Arrive, Accept, Refuse, End, Print}
use Rattle.batch_listing.specs.Texts.{heading, title, flawed_line, refused_line, closing_line, closing}

abbrev pub is_acceptance : ℕ → Event → Bool
is_acceptance number (Arrive claim) = false
is_acceptance number (Accept other) = number == other
is_acceptance number (Refuse other) = false
is_acceptance number (End other paid) = false
is_acceptance number (Print other) = false

abbrev pub is_refusal : ℕ → Event → Bool
is_refusal number (Arrive claim) = false
is_refusal number (Accept other) = false
is_refusal number (Refuse other) = number == other
is_refusal number (End other paid) = false
is_refusal number (Print other) = false

-- whether the job of a number is accepted by an event of the list
abbrev pub accepts : List Event → ℕ → Bool
accepts events number = list_any (is_acceptance number) events

-- whether it is refused by one
abbrev pub refuses : List Event → ℕ → Bool
refuses events number = list_any (is_refusal number) events

-- what a job costs that is run
abbrev pub cost : JobView → ℕ
cost job = charge (job_result job).counts

-- what an account pays for the job of a number: what it costs, where it is on the account and is accepted
abbrev pub payment : List Event → ℕ → ℕ × JobView → ℕ
payment events account (number, job) = if is_on account job.account && accepts events number then cost job else 0

-- what an account has left behind these jobs, the first of a batch
abbrev pub left : List ℕ → List Event → List JobView → ℕ → ℕ
left openings events jobs account = slice_index openings account - sum_by (payment events account) (enumerate_from 1 jobs)

-- what the account of a job has left; a job on no account has nothing
abbrev pub left_on : (ℕ → ℕ) → Option ℕ → ℕ
left_on balance None = 0
left_on balance (Some account) = balance account

-- why a job is refused, with this reserve and so much left on its account
abbrev pub refusal : Option Flaw → ℕ → ℕ → List ℕ
refusal (Some flaw) reserved balance = flawed_line flaw
refusal None reserved balance = refused_line reserved balance

-- the section of a job behind these jobs: with what it means where it is accepted, with the reason where it is refused, and none where nothing is decided
abbrev pub section_by : List ℕ → List Event → List JobView → JobView → List ℕ
section_by openings events earlier job =
    let number = length earlier + 1 in
    if accepts events number then title job ++ (job_result job).body else (if refuses events number then title job ++ refusal job.flaw (reserve job) (left_on (left openings events earlier) job.account) else [])

-- the section of each job
abbrev pub sections_by : List ℕ → List Event → List JobView → List ℕ
sections_by openings events jobs = flat_map (λ p. section_by openings events (take p.0 jobs) p.1) (enumerate_from 0 jobs)

-- a line for each account, with what it has left behind all jobs
abbrev pub closing_lines_by : List ℕ → List Event → List JobView → List Account → List ℕ
closing_lines_by openings events jobs accounts = flat_map (λ p. closing_line p.1 (left openings events jobs p.0)) (enumerate_from 0 accounts)

abbrev pub listing_by : List Event → Batch → List ℕ
listing_by events b =
    let openings = openings_of b.accounts in
    heading ++ sections_by openings events b.jobs ++ closing (closing_lines_by openings events b.jobs b.accounts) b.stray

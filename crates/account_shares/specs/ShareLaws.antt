-- A batch can be cut into any shares of its accounts, and into nights one after the other.
use Rattle.std.specs.Prelude.{ℕ, ◌≡◌, true, Bool, List, [], ◌∷◌, ◌++◌, Option, Some, map, slice_get, slice_index}
use Rattle.deck_reader.specs.declared.batch.Account.{Account}
use Rattle.deck_reader.specs.declared.batch.Batch.{Batch}
use Rattle.deck_reader.specs.JobView.{JobView}
use Rattle.deck_reader.specs.Batch.{batch_of}
use Rattle.deck_reader.specs.Cards.{cards}
use Rattle.account_book.specs.BookView.{openings_of}
use Rattle.account_book.specs.Places.{balances_behind, is_on, place_balance}
use Rattle.algolw_meaning.specs.Charging.{charged}
use Rattle.batch_listing.specs.Listing.{body, closing_lines, verdict, listing_of, section, sections}
use Rattle.batch_listing.specs.Texts.{heading, closing}
use Rattle.account_book.specs.OwnJobs.{own_jobs}
use Rattle.account_shares.specs.Own.{text_of}
use Rattle.batch_listing.specs.Listing.{closed_accounts}
use Rattle.account_shares.specs.Shares.{as_in, cards_in, closing_in, divided_sections, jobs_in, night_behind, number_in, part_from, sections_after, sections_in, share_of}

-- ---- any division

-- the balance of a share's account behind some jobs is the one behind the share's jobs among them
abbrev pub ShareBalances : Type 0
ShareBalances = (own : Option ℕ → Bool) (openings : List ℕ) (jobs : List JobView) (account : ℕ) → own (Some account) ≡ true
    → place_balance (part_from own 0 openings) (map charged (jobs_in own jobs)) (number_in own account) ≡ place_balance openings (map charged jobs) account

-- what stands below the title of a share's job is the same behind the share's jobs alone
abbrev pub ShareBodies : Type 0
ShareBodies = (own : Option ℕ → Bool) (openings : List ℕ) (earlier : List JobView) (job : JobView) (number : ℕ) → own job.account ≡ true
    → body (verdict (place_balance (part_from own 0 openings) (map charged (jobs_in own earlier))) (as_in own number job)) (as_in own number job)
    ≡ body (verdict (place_balance openings (map charged earlier)) job) job

-- the sections of a share's jobs alone are those that they have in the batch, but for the numbers
abbrev pub ShareSections : Type 0
ShareSections = (own : Option ℕ → Bool) (openings : List ℕ) (jobs : List JobView) → sections (part_from own 0 openings) (jobs_in own jobs) ≡ sections_in own 1 openings [] jobs

-- the listing of a share: the sections of its jobs as the whole batch has them, but for the numbers, and the closing lines of its accounts
abbrev pub ShareListing : Type 0
ShareListing = (own : Option ℕ → Bool) (b : Batch) → listing_of (share_of own b)
    ≡ heading ++ sections_in own 1 (openings_of b.accounts) [] b.jobs ++ closing (closing_in own 0 (openings_of b.accounts) b.jobs b.accounts) 0

-- where a batch's accounts are given, the cards of the libraries and of a share's jobs, with the share's accounts, are the batch of the share
abbrev pub ShareCards : Type 0
ShareCards = (own : Option ℕ → Bool) (accounts : List Account) (cards : List (List ℕ))
    → batch_of (Some (part_from own 0 accounts)) (cards_in own accounts cards) ≡ share_of own (batch_of (Some accounts) cards)

-- so are their bytes
abbrev pub ShareInput : Type 0
ShareInput = (own : Option ℕ → Bool) (accounts : List Account) (bytes : List ℕ)
    → batch_of (Some (part_from own 0 accounts)) (cards (text_of (cards_in own accounts (cards bytes)))) ≡ share_of own (batch_of (Some accounts) (cards bytes))

-- one account and its jobs are a share
abbrev pub OneAccountShare : Type 0
OneAccountShare = (b : Batch) (account : ℕ) (a : Account) → slice_get b.accounts account ≡ Some a
    → share_of (is_on account) b ≡ record { accounts = a ∷ []; jobs = own_jobs account b.jobs; stray = 0 }

-- the sections of a batch come from those of the shares of any division
abbrev pub SectionsFromDivision : Type 0
SectionsFromDivision = (division : Option ℕ → ℕ) (openings : List ℕ) (jobs : List JobView) → sections openings jobs ≡ divided_sections division openings [] jobs

-- ---- one after the other

-- a balance behind jobs and then others is the one behind the others, from what the first ones leave
abbrev pub BalancesInTurn : Type 0
BalancesInTurn = (openings : List ℕ) (earlier jobs : List JobView) (account : ℕ)
    → place_balance openings (map charged (earlier ++ jobs)) account ≡ place_balance (balances_behind openings (map charged earlier)) (map charged jobs) account

-- a section behind jobs and then others is the one behind the others, from what the first ones leave
abbrev pub SectionInTurn : Type 0
SectionInTurn = (openings : List ℕ) (earlier jobs : List JobView) (job : JobView)
    → section openings (earlier ++ jobs) job ≡ section (balances_behind openings (map charged earlier)) jobs job

-- the sections of jobs and then others are those of the jobs, and those of the others from what the first ones leave
abbrev pub SectionsInTurn : Type 0
SectionsInTurn = (openings : List ℕ) (earlier jobs : List JobView)
    → sections openings (earlier ++ jobs) ≡ sections openings earlier ++ sections (balances_behind openings (map charged earlier)) jobs

-- so with any openings that are the balances behind the first ones
abbrev pub SectionsFromClosings : Type 0
SectionsFromClosings = (openings openings' : List ℕ) (earlier jobs : List JobView)
    → ((account : ℕ) → slice_index openings' account ≡ place_balance openings (map charged earlier) account)
    → sections openings (earlier ++ jobs) ≡ sections openings earlier ++ sections openings' jobs

-- a batch's sections part anywhere
abbrev pub SectionsPart : Type 0
SectionsPart = (openings : List ℕ) (earlier jobs : List JobView) → sections openings (earlier ++ jobs) ≡ sections openings earlier ++ sections_after openings earlier jobs

-- the listing of a later night: its jobs' sections as they are behind the earlier ones, and its accounts closing as they do behind all
abbrev pub NightListing : Type 0
NightListing = (accounts : List Account) (earlier jobs : List JobView) → listing_of (night_behind accounts earlier jobs)
    ≡ heading ++ sections_after (openings_of accounts) earlier jobs
    ++ closing (closing_lines (openings_of accounts) (earlier ++ jobs) (night_behind accounts earlier jobs).accounts) 0

-- ---- both

-- what a share's jobs leave is the share's part of what all jobs leave
abbrev pub ShareClosings : Type 0
ShareClosings = (own : Option ℕ → Bool) (openings : List ℕ) (jobs : List JobView)
    → balances_behind (part_from own 0 openings) (map charged (jobs_in own jobs)) ≡ part_from own 0 (balances_behind openings (map charged jobs))

-- a share of a later night is the later night of the share
abbrev pub ShareOfNight : Type 0
ShareOfNight = (own : Option ℕ → Bool) (accounts : List Account) (earlier jobs : List JobView)
    → share_of own (night_behind accounts earlier jobs) ≡ night_behind (part_from own 0 accounts) (jobs_in own earlier) (jobs_in own jobs)

-- the listing of a share of a later night, with its jobs' numbers anew from 1: the sections of its jobs as the whole batch of all nights has
-- them, but for the numbers, and its accounts closing as they do in the whole
abbrev pub ShareNightListing : Type 0
ShareNightListing = (own : Option ℕ → Bool) (accounts : List Account) (earlier jobs : List JobView) → listing_of (share_of own (night_behind accounts earlier jobs))
    ≡ heading ++ sections_in own 1 (openings_of accounts) earlier jobs
    ++ closing (closing_in own 0 (openings_of accounts) (earlier ++ jobs) (closed_accounts (openings_of accounts) earlier accounts)) 0

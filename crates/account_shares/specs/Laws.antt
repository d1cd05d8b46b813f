-- A batch can be cut by its accounts: what a job shows is the same in a batch of its account's card, the libraries and the account's jobs alone.
use Rattle.std.specs.Prelude.{ℕ, ◌≡◌, ◌==◌, ◌||◌, true, false, List, [], ◌∷◌, ◌++◌, Option, None, Some, is_some, map, slice_get, slice_index}
use Rattle.std.specs.List.{All, list_all, list_any}
use Rattle.deck_reader.specs.declared.batch.Account.{Account}
use Rattle.deck_reader.specs.declared.batch.Flaw.{Flaw}
use Rattle.deck_reader.specs.JobView.{JobView}
use Rattle.deck_reader.specs.Cards.{cards, cleaned}
use Rattle.deck_reader.specs.Batch.{account_of, account_on, batch, batch_of}
use Rattle.account_book.specs.BookView.{openings_of}
use Rattle.account_book.specs.Places.{place_balance}
use Rattle.algolw_meaning.specs.Charging.{charged}
use Rattle.batch_listing.specs.Listing.{body, verdict, listing, listing_of, section, sections}
use Rattle.batch_listing.specs.Texts.{heading, closing, closing_line}
use Rattle.account_book.specs.OwnJobs.{as_own, own_jobs}
use Rattle.account_statements.specs.Statement.{statement_in}
use Rattle.account_shares.specs.Own.{merged_sections, own_cards, own_sections, own_text}

-- what stands below a job's title is the same behind its account's jobs alone
abbrev pub OwnBodies : Type 0
OwnBodies = (openings : List ℕ) (earlier : List JobView) (job : JobView) (account number : ℕ) → job.account ≡ Some account
    → body (verdict (place_balance (slice_index openings account ∷ []) (map charged (own_jobs account earlier))) (as_own number job)) (as_own number job)
    ≡ body (verdict (place_balance openings (map charged earlier)) job) job

-- the sections of an account's jobs alone are those that they have in the batch, but for the numbers
abbrev pub OwnSections : Type 0
OwnSections = (openings : List ℕ) (jobs : List JobView) (account : ℕ) → sections (slice_index openings account ∷ []) (own_jobs account jobs) ≡ own_sections account 1 openings [] jobs

-- a card that opens an account, the cards of the libraries and those of its jobs are a batch of that account and its jobs
abbrev pub OwnBatch : Type 0
OwnBatch = (cards : List (List ℕ)) (card : List ℕ) (account : ℕ) (a : Account) → slice_get (batch_of None cards).accounts account ≡ Some a → account_on card ≡ Some a
    → batch_of None (card ∷ own_cards account cards) ≡ record { accounts = a ∷ []; jobs = own_jobs account (batch_of None cards).jobs; stray = 0 }

-- the listing of that batch: the sections of the account's jobs as the whole batch has them, but for the numbers, and the account's closing line
abbrev pub OwnListing : Type 0
OwnListing = (cards : List (List ℕ)) (card : List ℕ) (account : ℕ) (a : Account) → slice_get (batch_of None cards).accounts account ≡ Some a → account_on card ≡ Some a
    → listing_of (batch_of None (card ∷ own_cards account cards))
    ≡ heading
    ++ own_sections account 1 (openings_of (batch_of None cards).accounts) [] (batch_of None cards).jobs
    ++ closing (closing_line a (place_balance (openings_of (batch_of None cards).accounts) (map charged (batch_of None cards).jobs) account)) 0

-- a job with a flaw has the same section wherever it stands
abbrev pub FlawedSections : Type 0
FlawedSections = (openings openings' : List ℕ) (earlier earlier' : List JobView) (job : JobView) (flaw : Flaw) → job.flaw ≡ Some flaw → section openings earlier job ≡ section openings' earlier' job

-- each job of a batch has a flaw or an account, whether its accounts are given or not
abbrev pub FlawsOrAccounts : Type 0
FlawsOrAccounts = (given : Option (List Account)) (cards : List (List ℕ)) → list_all (λ job. is_some job.flaw || is_some job.account) (batch_of given cards).jobs ≡ true

-- a card that stays as it is when it is read again, with a carriage return behind it
pub record IsPlain (card : List ℕ) : Type 0 where
  pub stays : cleaned (card ++ 13 ∷ []) ≡ card
  pub no_feed : list_any (λ b. b == 10) card ≡ false

-- each card of every input does
abbrev pub CardsArePlain : Type 0
CardsArePlain = (bytes : List ℕ) → All IsPlain (cards bytes)

-- an input of such a card that opens the account, of the libraries' cards and of its jobs', is the batch of that account and its jobs
abbrev pub OwnInput : Type 0
OwnInput = (bytes card : List ℕ) (account : ℕ) (a : Account) → slice_get (batch bytes).accounts account ≡ Some a → account_on card ≡ Some a → IsPlain card
    → batch (own_text card account bytes) ≡ record { accounts = a ∷ []; jobs = own_jobs account (batch bytes).jobs; stray = 0 }

-- and its listing has the sections that the account's jobs have in the whole, but for the numbers, and the account's closing line
abbrev pub OwnInputListing : Type 0
OwnInputListing = (bytes card : List ℕ) (account : ℕ) (a : Account) → slice_get (batch bytes).accounts account ≡ Some a → account_on card ≡ Some a → IsPlain card
    → listing (own_text card account bytes)
    ≡ heading
    ++ own_sections account 1 (openings_of (batch bytes).accounts) [] (batch bytes).jobs
    ++ closing (closing_line a (place_balance (openings_of (batch bytes).accounts) (map charged (batch bytes).jobs) account)) 0

-- the sections of a batch come from those of its accounts
abbrev pub SectionsFromShares : Type 0
SectionsFromShares = (openings : List ℕ) (jobs : List JobView) → sections openings jobs ≡ merged_sections openings [] jobs

-- a batch of an account's card, the libraries' cards and its jobs' alone has the statement that the whole batch has
abbrev pub OwnStatement : Type 0
OwnStatement = (name : List ℕ) (cards : List (List ℕ)) (card : List ℕ) (account : ℕ) (a : Account) → account_of (batch_of None cards).accounts name ≡ Some account
    → slice_get (batch_of None cards).accounts account ≡ Some a → account_on card ≡ Some a
    → statement_in name (batch_of None (card ∷ own_cards account cards)) ≡ statement_in name (batch_of None cards)

-- so has an input of that card and these cards
abbrev pub OwnInputStatement : Type 0
OwnInputStatement = (name bytes card : List ℕ) (account : ℕ) (a : Account) → account_of (batch bytes).accounts name ≡ Some account
    → slice_get (batch bytes).accounts account ≡ Some a → account_on card ≡ Some a → IsPlain card
    → statement_in name (batch (own_text card account bytes)) ≡ statement_in name (batch bytes)

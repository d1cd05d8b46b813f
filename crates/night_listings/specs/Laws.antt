-- The listing of a night comes from those of its parts.
use Rattle.std.specs.Prelude.{ℕ, ◌≡◌, ◌||◌, true, List, [], ◌++◌, is_some}
use Rattle.std.specs.List.{list_all}
use Rattle.deck_reader.specs.declared.batch.Account.{Account}
use Rattle.deck_reader.specs.JobView.{JobView}
use Rattle.account_book.specs.BookView.{openings_of}
use Rattle.batch_listing.specs.Listing.{closed_accounts, closing_lines, listing_of}
use Rattle.batch_listing.specs.Texts.{heading, closing}
use Rattle.account_shares.specs.Shares.{closing_in, sections_after}
use Rattle.night_listings.specs.Nights.{in_chain, jobs_of_windows, merged, merged_windows, night, night_listing, numbered_from, part_of, rests_in}

-- the listing of a part: what the night's sections have behind their numbers, under numbers from 1, and its accounts closing as they do in the
-- night behind the window
abbrev pub PartListing : Type 0
PartListing = (chain : ℕ → ℕ) (c : ℕ) (accounts : List Account) (earlier jobs : List JobView) → listing_of (part_of chain c accounts earlier jobs)
    ≡ heading ++ numbered_from 1 (rests_in (in_chain chain c) (openings_of accounts) earlier jobs)
    ++ closing (closing_in (in_chain chain c) 0 (openings_of accounts) (earlier ++ jobs) (closed_accounts (openings_of accounts) earlier accounts)) 0

-- a window's sections come from those of its parts
abbrev pub WindowMerged : Type 0
WindowMerged = (chain : ℕ → ℕ) (openings : List ℕ) (earlier jobs : List JobView) → list_all (λ job. is_some job.flaw || is_some job.account) jobs ≡ true
    → merged chain (λ c. rests_in (in_chain chain c) openings earlier jobs) jobs ≡ sections_after openings earlier jobs

-- a night's sections come from those of its windows' parts, however its jobs are divided into windows and its accounts into chains
abbrev pub NightMerged : Type 0
NightMerged = (chain : ℕ → ℕ) (accounts : List Account) (bytes : List ℕ) (windows : List (List JobView)) → (night accounts bytes).jobs ≡ jobs_of_windows windows
    → night_listing accounts bytes
    ≡ heading ++ merged_windows chain (openings_of accounts) [] windows
    ++ closing (closing_lines (openings_of accounts) (jobs_of_windows windows) accounts) (night accounts bytes).stray

-- The sections of a batch by a table of balances.
use Rattle.std.specs.Prelude.{ℕ, ◌≡◌, List, [], ◌∷◌, ◌++◌, slice_index}
use Rattle.deck_reader.specs.JobView.{JobView}
use Rattle.account_book.specs.Places.{settled}
use Rattle.algolw_meaning.specs.Charging.{charged}
use Rattle.batch_listing.specs.Listing.{section_with, sections}

-- the sections of these jobs, the first of them where these are the balances
abbrev pub sections_by_table : List ℕ → List JobView → List ℕ
sections_by_table balances [] = []
sections_by_table balances (job ∷ jobs) = section_with (slice_index balances) job ++ sections_by_table (settled balances (charged job)) jobs

-- the sections by a table that is kept from job to job are those by places
abbrev pub SectionsByTable : Type 0
SectionsByTable = (openings : List ℕ) (jobs : List JobView) → sections_by_table openings jobs ≡ sections openings jobs

-- The order of the events doesn't show in the listing.
use Rattle.std.specs.Prelude.{ℕ, ◌≡◌, ◌+◌, ◌≤◌, length, List, Some, Contains, filter_map, map, slice_get}
use Rattle.deck_reader.specs.declared.batch.Batch.{Batch}
use Rattle.deck_reader.specs.JobView.{JobView}
use Rattle.account_book.specs.BookView.{openings_of}
use Rattle.batch_core.specs.declared.event.Event.{Event}
use Rattle.batch_core.specs.declared.event.Event.TheVariants.{End}
use Rattle.batch_core.specs.Claims.{claim_of_job}
use Rattle.batch_core.specs.Core.{start}
use Rattle.batch_core.specs.Events.{IsThere, Legal, IsComplete, replay}
use Rattle.batch_core.specs.Laws.{claim_of}
use Rattle.batch_listing.specs.Listing.{listing_of, sections}
use Rattle.listing_order.specs.Decisions.{cost, listing_by, sections_by}

-- a list of events that brings these jobs to their end, on accounts with these openings
pub record BringsToEnd (openings : List ℕ) (jobs : List JobView) (events : List Event) : Type 0 where
  -- each event is allowed behind those before it, and behind the last all jobs are printed
  pub legal : Legal (start openings) events
  pub complete : IsComplete (replay (start openings) events)
  -- these jobs arrive, with what they ask, and no others
  pub claims : filter_map claim_of events ≡ map claim_of_job jobs
  -- a job that ends is charged what it costs
  pub charges : (place paid : ℕ) (job : JobView) → slice_get jobs place ≡ Some job → Contains events (End (place + 1) paid) → paid ≡ cost job

-- the sections by the decisions of such a list are those of the jobs at their places
abbrev pub DecisionsGiveTheSections : Type 0
DecisionsGiveTheSections = (openings : List ℕ) (jobs : List JobView) (events : List Event) → BringsToEnd openings jobs events → sections_by openings events jobs ≡ sections openings jobs

-- and the listing by them is that of the batch
abbrev pub DecisionsGiveTheListing : Type 0
DecisionsGiveTheListing = (b : Batch) (events : List Event) → BringsToEnd (openings_of b.accounts) b.jobs events → listing_by events b ≡ listing_of b

-- there are such lists: where the account of each job is one of those that were opened, and job numbers last, the jobs may be decided and end one by one
abbrev pub BatchesComeToAnEnd : Type 0
BatchesComeToAnEnd = (openings : List ℕ) (jobs : List JobView) → ((place : ℕ) (job : JobView) → slice_get jobs place ≡ Some job → IsThere openings (claim_of_job job).account) → length jobs ≤ 4294967295 → (events : List Event) × BringsToEnd openings jobs events

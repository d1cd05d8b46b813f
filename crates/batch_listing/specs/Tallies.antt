-- What the sections of a batch come to.
use Rattle.std.specs.Prelude.{ℕ, List, length, map}
use Rattle.deck_reader.specs.declared.batch.Batch.{Batch}
use Rattle.deck_reader.specs.JobView.{JobView}
use Rattle.account_book.specs.BookView.{openings_of}
use Rattle.account_book.specs.Places.{place_balance}
use Rattle.algolw_meaning.specs.declared.ending.Ending.{Ending}
use Rattle.algolw_meaning.specs.declared.ending.Ending.TheVariants as ending
use Rattle.algolw_meaning.specs.Running.{job_result}
use Rattle.batch_summary.specs.declared.tally.Entry.{Entry}
use Rattle.batch_summary.specs.declared.tally.Outcome.{Outcome}
use Rattle.batch_summary.specs.declared.tally.Outcome.TheVariants as outcome
use Rattle.batch_summary.specs.declared.tally.Tally.{Tally}
use Rattle.batch_summary.specs.Tally.{at_places, tally_of}
use Rattle.batch_listing.specs.declared.verdict.Verdict.{Verdict}
use Rattle.batch_listing.specs.declared.verdict.Verdict.TheVariants.{Flawed, Refused, Accepted}
use Rattle.algolw_meaning.specs.Charging.{charged}
use Rattle.batch_listing.specs.Listing.{verdict, listing_of, section_with}
use Rattle.batch_listing.specs.Texts.{heading}

abbrev pub ended_so : Ending → Outcome
ended_so ending.Normal = outcome.Normal
ended_so ending.Fault = outcome.Fault
ended_so ending.Limit = outcome.Limit
ended_so ending.Diagnosed = outcome.Diagnosed

-- what became of a job, by what was decided of it
abbrev pub outcome_by : Verdict → JobView → Outcome
outcome_by (Flawed flaw) job = outcome.Refused
outcome_by (Refused reserve balance) job = outcome.Refused
outcome_by (Accepted account) job = ended_so (job_result job).ending

-- what a job is charged, by what was decided of it
abbrev pub price_by : Verdict → JobView → ℕ
price_by (Flawed flaw) job = 0
price_by (Refused reserve balance) job = 0
price_by (Accepted account) job = (charged job).1

-- what a section of this many bytes comes to, by what was decided of its job
abbrev pub entry_by : Verdict → JobView → ℕ → Entry
entry_by decided job bytes = record { outcome = outcome_by decided job; charge = price_by decided job; bytes = bytes }

-- what the section of a job comes to where these are the balances
abbrev pub entry_with : (ℕ → ℕ) → JobView → Entry
entry_with balance job = entry_by (verdict balance job) job (length (section_with balance job))

-- what the section of a job comes to at its place, behind these jobs
abbrev pub entry : List ℕ → List JobView → JobView → Entry
entry openings earlier job = entry_with (place_balance openings (map charged earlier)) job

-- what the heading and the sections of these jobs come to
abbrev pub sections_tally : List ℕ → List JobView → Tally
sections_tally openings jobs = tally_of (length heading) (at_places (entry openings) jobs)

-- what a listing comes to
abbrev pub listing_tally : Batch → Tally
listing_tally b = record (sections_tally (openings_of b.accounts) b.jobs) { bytes = length (listing_of b) }

-- How far the listing of a batch is.
use Rattle.std.specs.Prelude.{ℕ, ◌≡◌, ◌≤◌, ◌++◌, false, List, [], Option, Some, None, length, take}
use Rattle.std.specs.Io.KnownBytes.{Appends, Consumes, IsAtEnd}
use Rattle.deck_reader.specs.declared.batch.Account.{Account}
use Rattle.deck_reader.specs.Batch.{batch_with, too_large}
use Rattle.deck_reader.specs.JobView.{JobView}
use Rattle.account_book.specs.BookView.{openings_of}
use Rattle.account_book.specs.declared.decision.Decision.{Decision}
use Rattle.algolw_meaning.specs.Charging.{decisions}
use Rattle.batch_listing.specs.declared.audit.Audit.{Audit}
use Rattle.batch_listing.specs.Behind.{IsBehind}
use Rattle.batch_listing.specs.Listing.{sections}
use Rattle.batch_listing.specs.Tallies.{sections_tally}
use Rattle.batch_listing.specs.Texts.{heading}
use Rattle.batch_runner.specs.declared.clerk.Docket.{Docket}
use Rattle.batch_intake.specs.declared.halt.Halt.{Halt}
use Rattle.batch_intake.specs.declared.intake.Intake.{Intake}
use Rattle.batch_runner.specs.Outcome.{Outside, HasHalted}
use Rattle.batch_intake.specs.Taking.{HasRead, jobs_by, stray_of}

-- what was read and written, what is known of the batch, the audit behind what it has made, of how many jobs the sections are written, what
-- became of these, and why no more are
pub record Progress : Type 0 where
  pub outside : Outside
  pub intake : Intake
  pub audit : Audit
  pub written : ℕ
  pub became : List Decision
  pub halt : Option Halt

abbrev pub openings : Progress → List ℕ
openings p = openings_of p.audit.book.accounts

-- an input was read since the start, and the heading and the sections of its first jobs were made and written
pub record HasWritten (given : Option (List Account)) (start : Outside) (p : Progress) : Type 0 where
  pub input : List ℕ
  pub read : Consumes start.left p.outside.left input
  pub known : HasRead given p.intake p.outside.left p.audit.book.accounts input
  pub few : p.written ≤ length (jobs_by p.intake)
  pub behind : IsBehind p.audit.book (take p.written (jobs_by p.intake))
  pub tally : p.audit.tally ≡ sections_tally (openings p) (take p.written (jobs_by p.intake))
  pub decided : p.became ≡ decisions (openings p) (take p.written (jobs_by p.intake))
  pub wrote : Appends start.written p.outside.written (heading ++ sections (openings p) (take p.written (jobs_by p.intake)))
  pub read_faults : p.outside.read_faults ≡ start.read_faults
  pub write_faults : p.outside.write_faults ≡ start.write_faults

abbrev pub Standing : Option (List Account) → Outside → Progress → Option Halt → Type 0
Standing given start p None = HasWritten given start p
Standing given start p (Some halt) = HasHalted given start p.outside halt

-- either this, or something halts it
abbrev pub StandsSince : Option (List Account) → Outside → Progress → Type 0
StandsSince given start p = Standing given start p p.halt

-- what stood since any start stands still, whatever accounts are given
pub record GoesOn (old new : Progress) : Type 0 where
  pub stands : (given : Option (List Account)) (start : Outside) → StandsSince given start old → StandsSince given start new

-- the progress of a docket, where this was read and written
abbrev pub progress : Docket → Outside → Progress
progress docket now = record { outside = now; intake = docket.intake; audit = docket.audit; written = docket.written; became = docket.decisions.items; halt = docket.halt }

-- the progress before the first section
abbrev pub begun : Outside → Intake → Audit → Progress
begun now intake audit = record { outside = now; intake = intake; audit = audit; written = 0; became = []; halt = None }

-- the accounts of a batch, of which so much was read, are in the audit's book, and no section is made
pub record IsOpened (given : Option (List Account)) (left left' : Option (List ℕ)) (intake : Intake) (audit : Audit) : Type 0 where
  pub input : List ℕ
  pub read : Consumes left left' input
  pub known : HasRead given intake left' audit.book.accounts input
  pub behind : IsBehind audit.book []
  pub tally : audit.tally ≡ sections_tally (openings_of audit.book.accounts) []

-- the whole source was read and wasn't too large, the heading and all sections were written, and this audit is behind the last
pub record IsServed (given : Option (List Account)) (start now : Outside) (audit : Audit) (stray : ℕ) : Type 0 where
  pub input : List ℕ
  pub read : Consumes start.left now.left input
  pub to_end : IsAtEnd now.left
  pub fits : too_large input ≡ false
  pub accounts : audit.book.accounts ≡ (batch_with given input).accounts
  pub stray_is : stray ≡ (batch_with given input).stray
  pub behind : IsBehind audit.book (batch_with given input).jobs
  pub tally : audit.tally ≡ sections_tally (openings_of (batch_with given input).accounts) (batch_with given input).jobs
  pub wrote : Appends start.written now.written (heading ++ sections (openings_of (batch_with given input).accounts) (batch_with given input).jobs)
  pub read_faults : now.read_faults ≡ start.read_faults
  pub write_faults : now.write_faults ≡ start.write_faults

-- so it was, these are the batch's jobs, and this became of each at its place
pub record IsDecided (given : Option (List Account)) (start now : Outside) (audit : Audit) (stray : ℕ) (jobs : List JobView) (became : List Decision) : Type 0 where
  pub served : IsServed given start now audit stray
  pub jobs_are : jobs ≡ (batch_with given served.input).jobs
  pub decided : became ≡ decisions (openings_of (batch_with given served.input).accounts) (batch_with given served.input).jobs

-- all this is so of what a docket keeps
pub record HasAll (given : Option (List Account)) (start now : Outside) (docket : Docket) : Type 0 where
  pub all : IsDecided given start now docket.audit (stray_of docket.intake) (jobs_by docket.intake) docket.decisions.items

-- The listing of a batch, by the form in which it is taken apart.
use Rattle.std.specs.Prelude.{ℕ, ◌≡◌, ⊤, List, [], ◌∷◌, ◌++◌, All, map, reverse, Option, Some, None}
use Rattle.deck_reader.specs.declared.batch.Account.{Account}
use Rattle.deck_reader.specs.declared.batch.Batch.{Batch}
use Rattle.deck_reader.specs.JobView.{JobView}
use Rattle.deck_reader.specs.Batch.{batch_with}
use Rattle.account_book.specs.BookView.{openings_of}
use Rattle.batch_listing.specs.Listing.{closing_lines, listing_of, section}
use Rattle.batch_listing.specs.Texts.{closing}
use Rattle.listing_parts.specs.Lines.{IsUpward, text_up}
use Rattle.listing_parts.specs.Sections.{IsListing}
use Rattle.printed_lines.specs.Texts.{IsText}
use Rattle.printable_decks.specs.Laws.{JobHolds}
use Rattle.section_forms.specs.Laws.{IsFit}

-- the section of each of these jobs at its place behind the earlier ones
abbrev pub texts_after : List ℕ → List JobView → List JobView → List (List ℕ)
texts_after openings earlier [] = []
texts_after openings earlier (job ∷ jobs) = section openings earlier job ∷ texts_after openings (earlier ++ job ∷ []) jobs

-- The lines of the batch's listing, the last one first, are a listing by its form; its sections, the last one first, are those of the batch's jobs, and
-- its closing lines those of the batch.
pub record IsApart (b : Batch) : Type 0 where
  pub up : List (List ℕ)
  pub closing_part : List (List ℕ)
  pub sections_part : List (List (List ℕ))
  pub upward : IsUpward (listing_of b) up
  pub form : IsListing up closing_part sections_part
  pub closing_is : text_up closing_part ≡ closing (closing_lines (openings_of b.accounts) b.jobs b.accounts) b.stray
  pub sections_are : map text_up (reverse sections_part) ≡ texts_after (openings_of b.accounts) [] b.jobs

abbrev pub NameHolds : Account → Type 0
NameHolds account = IsText account.name

-- the names in a job's title and its cards are texts, and it is within the limits, unless it has a flaw
pub record IsListable (job : JobView) : Type 0 where
  pub name : IsText job.name
  pub account_name : IsText job.account_name
  pub cards : JobHolds job
  pub fit : job.flaw ≡ None → IsFit job

-- so is each job of a batch, and the names of its accounts are texts
pub record BatchHolds (b : Batch) : Type 0 where
  pub accounts : All NameHolds b.accounts
  pub jobs : All IsListable b.jobs

-- Such a batch is apart, whatever its jobs print, wherever they and its accounts come from.
abbrev pub BatchesAreApart : Type 0
BatchesAreApart = (b : Batch) → BatchHolds b → IsApart b

-- the names of accounts that are given
abbrev pub NamesHold : Option (List Account) → Type 0
NamesHold None = ⊤
NamesHold (Some accounts) = All NameHolds accounts

-- Every input is such a batch, on its own accounts or on those that are given.
abbrev pub InputsHold : Type 0
InputsHold = (given : Option (List Account)) (bytes : List ℕ) → NamesHold given → BatchHolds (batch_with given bytes)

-- So every input is apart, whatever bytes it is and whatever its jobs print.
abbrev pub ListingsHaveForm : Type 0
ListingsHaveForm = (given : Option (List Account)) (bytes : List ℕ) → NamesHold given → IsApart (batch_with given bytes)

-- The form of the sections of jobs.
use Rattle.std.specs.Prelude.{ℕ, ◌≡◌, ◌≤◌, true, List, [], ◌++◌, All}
use Rattle.deck_reader.specs.JobView.{JobView}
use Rattle.algolw_meaning.specs.Running.{job_result}
use Rattle.algolw_meaning.specs.Texts.{line}
use Rattle.listing_parts.specs.Lines.{text_up}
use Rattle.listing_parts.specs.Sections.{IsSection, begins}
use Rattle.printed_lines.specs.Texts.{IsText}
use Rattle.printable_decks.specs.Laws.{JobHolds}

-- under an empty line and a title this body is a section, by its lines, the last one first
pub record HasForm (title body : List ℕ) : Type 0 where
  pub up : List (List ℕ)
  pub whole : line [] ++ line title ++ body ≡ text_up up
  pub texts : All IsText up
  pub form : IsSection up

-- the limits within which a job is accepted
pub record IsFit (job : JobView) : Type 0 where
  pub cards : job.cards ≤ 2000
  pub steps : job.steps ≤ 10000000
  pub lines : job.lines ≤ 500

-- What a job gives has the form, where its cards are texts and it is within the limits.
abbrev pub SectionsHaveForm : Type 0
SectionsHaveForm = (job : JobView) (title : List ℕ) → JobHolds job → IsFit job → IsText title → begins 74 title ≡ true → HasForm title (job_result job).body

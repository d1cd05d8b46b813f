-- What a job without a flaw gives.
use Rattle.std.specs.Prelude.{ℕ, List, ◌++◌, Option, take}
use Rattle.std.specs.Option.{option_map}
use Rattle.deck_reader.specs.JobView.{JobView}
use Rattle.account_book.specs.declared.charges.Counts.{Counts}
use Rattle.algolw_meaning.specs.Texts.{source_lines, sum_line, diagnostic_lines}
use Rattle.value_ops.specs.declared.places.Diagnostic.{Diagnostic}
use Rattle.algolw_meaning.specs.DeckDiagnostics.{job_diagnostics}
use Rattle.algolw_meaning.specs.declared.ending.Ending.{Ending}
use Rattle.algolw_meaning.specs.declared.ending.Ending.TheVariants.{Diagnosed}

-- the body of a job's section, what the job used, and how it ended
pub record JobResult : Type 0 where
  pub body : List ℕ
  pub counts : Counts
  pub ending : Ending

abbrev pub counts_of : ℕ → ℕ → ℕ → Counts
counts_of cards steps lines = record { cards = cards; steps = steps; lines = lines }

-- the body of a job whose deck has these diagnostics
abbrev pub diagnosed_body : List (List ℕ) → List Diagnostic → Counts → List ℕ
diagnosed_body deck faults counts = source_lines 1 deck ++ diagnostic_lines faults ++ sum_line counts

abbrev pub diagnosed : List Diagnostic → JobView → JobResult
diagnosed faults job = record { body = diagnosed_body job.deck faults (counts_of job.cards 0 0); counts = counts_of job.cards 0 0; ending = Diagnosed }

-- the cards of the job's library, where it has one
abbrev pub job_library : JobView → Option (List (List ℕ))
job_library job = option_map (λ l. l.cards) job.library

-- the diagnostics of a deck with its library that are shown: the first twenty in order of place
abbrev pub shown_diagnostics : Option (List (List ℕ)) → List (List ℕ) → List Diagnostic
shown_diagnostics library deck = take 20 (job_diagnostics library deck)

-- What the results of jobs keep.
use Rattle.std.specs.Prelude.{◌≡◌, ◌≤◌, List, [], ◌∷◌, take}
use Rattle.value_ops.specs.declared.places.Diagnostic.{Diagnostic}
use Rattle.deck_reader.specs.JobView.{JobView}
use Rattle.account_book.specs.Charges.{charge, reserve}
use Rattle.algolw_tree.specs.Tree.{Phrase}
use Rattle.algolw_typing.specs.Faults.{program_faults}
use Rattle.algolw_typing.specs.Programs.{program_of}
use Rattle.algolw_meaning.specs.DeckDiagnostics.{JobHasFault, JobHasProgram}
use Rattle.algolw_meaning.specs.Meaning.{JobResult, diagnosed, job_library}
use Rattle.algolw_meaning.specs.Running.{run_result, program_outcome, job_result}

-- what a job gives, by the tokens of its deck and of its library
pub data IsResult (job : JobView) (result : JobResult) : Type 0 where
  -- the one fault of its tokens or its form
  a_wrong_deck : (d : Diagnostic) → JobHasFault (job_library job) job.deck d → result ≡ diagnosed (d ∷ []) job → IsResult job result
  -- the first twenty faults of the names and types of the program that they spell
  a_faulty_program : (x : Phrase) (d : Diagnostic) (faults : List Diagnostic) → JobHasProgram (job_library job) job.deck x → take 20 (program_faults x) ≡ d ∷ faults → result ≡ diagnosed (d ∷ faults) job → IsResult job result
  -- what the program that they spell gives, which has none
  a_run : (x : Phrase) → JobHasProgram (job_library job) job.deck x → program_faults x ≡ [] → result ≡ run_result job (program_of x).statements (program_outcome job (program_of x)) → IsResult job result

abbrev pub ResultsOfJobs : Type 0
ResultsOfJobs = (job : JobView) → IsResult job (job_result job)

-- a job with this result is charged at least its cards and at most its reserve
abbrev pub Within : JobView → JobResult → Type 0
Within job result = (job.cards ≤ charge result.counts) × (charge result.counts ≤ reserve job)

-- the result counts the job's cards, and no more steps and lines than the job may have
pub record KeepsTheJob (job : JobView) (result : JobResult) : Type 0 where
  pub cards : result.counts.cards ≡ job.cards
  pub steps : result.counts.steps ≤ job.steps
  pub lines : result.counts.lines ≤ job.lines

-- so does every job
pub record ResultWithin : Type 0 where
  pub counts : (job : JobView) → KeepsTheJob job (job_result job)
  pub within : (job : JobView) → Within job (job_result job)

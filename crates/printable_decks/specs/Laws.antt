-- What the jobs of a batch print.
use Rattle.std.specs.Prelude.{ℕ, ⊤, List, Option, Some, None, All}
use Rattle.deck_reader.specs.declared.batch.Account.{Account}
use Rattle.deck_reader.specs.JobView.{JobView}
use Rattle.deck_reader.specs.Batch.{batch_with}
use Rattle.algolw_tree.specs.Tree.{Phrase}
use Rattle.algolw_typing.specs.Programs.{program_of}
use Rattle.program_meaning.specs.Translating.{program_phrase}
use Rattle.algolw_meaning.specs.DeckDiagnostics.{JobHasProgram}
use Rattle.algolw_meaning.specs.Meaning.{job_library}
use Rattle.algolw_meaning.specs.Running.{setting_of}
use Rattle.printed_lines.specs.Texts.{IsText}
use Rattle.printed_lines.specs.Laws.{PrintsTexts}

-- cards, where there are some
abbrev pub CardsHold : Option (List (List ℕ)) → Type 0
CardsHold None = ⊤
CardsHold (Some cards) = All IsText cards

-- each card of the job's library, of its deck and of its data is a text
pub record JobHolds (job : JobView) : Type 0 where
  pub library : CardsHold (job_library job)
  pub deck : All IsText job.deck
  pub data_cards : All IsText job.data_cards

-- each program that the job's cards spell prints texts alone
abbrev pub JobPrints : JobView → Type 0
JobPrints job = (x : Phrase) → JobHasProgram (job_library job) job.deck x → PrintsTexts (setting_of job) (program_phrase (program_of x))

-- So does the program of each job whose cards are texts.
abbrev pub JobsPrintTexts : Type 0
JobsPrintTexts = (job : JobView) → JobHolds job → JobPrints job

-- Whatever is in a batch, so do the programs of its jobs: a job with a card that is none is refused.
abbrev pub BatchesPrintTexts : Type 0
BatchesPrintTexts = (given : Option (List Account)) (bytes : List ℕ) → All JobPrints (batch_with given bytes).jobs

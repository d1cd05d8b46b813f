-- The result of a job costs at most the job's reserve.
use Rattle.std.proofs.Common.{List, [], ◌∷◌, refl, arith}
use Rattle.deck_reader.specs.JobView.{JobView}
use Rattle.value_ops.specs.declared.places.Diagnostic.{Diagnostic}
use Rattle.algolw_typing.specs.Programs.{program_of}
use Rattle.program_meaning.specs.Laws.{KeepsItsLimits}
use Rattle.program_meaning.specs.Translating.{program_phrase}
use Rattle.program_meaning.proofs.Runs.{runs_keep_their_limits}
use Rattle.algolw_meaning.specs.DeckDiagnostics.{Deck, IsProgram, IsWrong, NothingFound, job_deck}
use Rattle.algolw_meaning.specs.Laws.{KeepsTheJob, Within}
use Rattle.algolw_meaning.specs.Meaning.{JobResult, job_library, shown_diagnostics}
use Rattle.algolw_meaning.specs.Running.{job_result, result_of_deck, setting_of}

deck_keeps : (faults : List Diagnostic) (deck : Deck) (job : JobView) → KeepsTheJob job (result_of_deck faults deck job)
deck_keeps (d ∷ faults) deck job = record { cards = refl; steps = omega arith; lines = omega arith }
deck_keeps [] (IsProgram x) job =
    let keeps : KeepsItsLimits (setting_of job) (program_phrase (program_of x)) = runs_keep_their_limits (setting_of job) (program_phrase (program_of x)) in
    record { cards = refl; steps = keeps.steps; lines = keeps.lines }
deck_keeps [] (IsWrong d) job = record { cards = refl; steps = omega arith; lines = omega arith }
deck_keeps [] NothingFound job = record { cards = refl; steps = omega arith; lines = omega arith }

pub job_keeps : (job : JobView) → KeepsTheJob job (job_result job)
job_keeps job = deck_keeps (shown_diagnostics (job_library job) job.deck) (job_deck (job_library job) job.deck) job

kept_within : (job : JobView) (result : JobResult) → KeepsTheJob job result → Within job result
kept_within job result k = (omega (arith, k.cards), omega (arith, k.cards, k.steps, k.lines))

pub job_within : (job : JobView) → Within job (job_result job)
job_within job = kept_within job (job_result job) (job_keeps job)

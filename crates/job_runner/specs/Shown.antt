-- What a desk shows of a job that was run.
use Rattle.std.specs.Prelude.{◌≡◌, []}
use Rattle.deck_reader.specs.JobView.{JobView}
use Rattle.algolw_tree.specs.Tree.{Phrase}
use Rattle.algolw_typing.specs.Faults.{program_faults}
use Rattle.algolw_typing.specs.Programs.{program_of}
use Rattle.program_meaning.specs.Results.{state_of, printed_lines, dump_of}
use Rattle.stack_machine.specs.Runs.{Shown}
use Rattle.algolw_meaning.specs.DeckDiagnostics.{JobHasProgram}
use Rattle.algolw_meaning.specs.Meaning.{job_library}
use Rattle.algolw_meaning.specs.Running.{setting_of, program_outcome}
use Rattle.job_runner.specs.Counted.{IsCounted}

-- The tokens of the job's deck, with its library, spell a program without faults, and the desk shows what its run gives: the steps, the lines, the dump, and how
-- often each statement was begun.
pub record ShowsRun (job : JobView) (d : Shown) : Type 0 where
  pub program : Phrase
  pub spelled : JobHasProgram (job_library job) job.deck program
  pub faultless : program_faults program ≡ []
  pub steps : d.steps ≡ (state_of (program_outcome job (program_of program))).steps
  pub lines : d.lines ≡ printed_lines (setting_of job) (state_of (program_outcome job (program_of program)))
  pub dump : d.dump ≡ dump_of (program_outcome job (program_of program))
  pub counts : IsCounted (program_of program).statements d.counts (state_of (program_outcome job (program_of program))).begun

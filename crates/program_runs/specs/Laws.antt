-- The code of every deck without faults runs as the deck means, for all data and limits.
use Rattle.std.specs.Prelude.{◌≡◌, ◌⊎◌, ℕ, List, [], Option, All}
use Rattle.deck_reader.specs.declared.batch.Account.{Account}
use Rattle.deck_reader.specs.Batch.{batch_with}
use Rattle.deck_reader.specs.JobView.{JobView}
use Rattle.algolw_tree.specs.Tree.{Phrase}
use Rattle.algolw_typing.specs.Faults.{program_faults}
use Rattle.algolw_typing.specs.Programs.{TypedProgram, program_of}
use Rattle.program_meaning.specs.Phrases as phrases
use Rattle.program_meaning.specs.State as state
use Rattle.program_meaning.specs.State.{Setting, Given, on, stop}
use Rattle.program_meaning.specs.Results as results
use Rattle.program_meaning.specs.Results.{outcome, state_of}
use Rattle.program_meaning.specs.Translating.{program_phrase}
use Rattle.stack_code.specs.Code.{Code}
use Rattle.stack_code.specs.Run as table
use Rattle.stack_code.specs.Run.{normal, stopped, machine_of}
use Rattle.stack_code.specs.Ending.{AlwaysEnds, Runs}
use Rattle.stack_code.specs.GoingOn.{WellFormed}
use Rattle.phrase_code.specs.Coding.{program_code}
use Rattle.program_soundness.specs.Laws.{NeverGoesWrong, outcome_by_environments}
use Rattle.faultless_programs.specs.Laws.{IsDeckTree}
use Rattle.algolw_meaning.specs.DeckDiagnostics.{JobHasProgram, job_diagnostics}
use Rattle.algolw_meaning.specs.Meaning.{JobResult, job_library}
use Rattle.algolw_meaning.specs.Running.{setting_of, job_result}
use Rattle.deck_programs.specs.Laws.{IsDiagnosed, StandsBefore}
use Rattle.program_runs.specs.Shown.{table_result}

-- ---- one run

-- it ends as the meaning does: normally, or by the same fault or limit in the same statement
abbrev pub EndsAs : {P : Type 0} → table.Outcome → state.Outcome P Given → Type 0
EndsAs (normal m) (on a s) = Unit {0}
EndsAs (stopped y w m) (stop z x s) = (y ≡ z) × (w ≡ x)
EndsAs o r = ⊥

-- an outcome of the table shows what one of the meaning shows: the ending, what was printed, the statements begun, the steps and the dump
pub record Shows {P : Type 0} (code : Code) (o : table.Outcome) (r : state.Outcome P Given) : Type 0 where
  pub ends : EndsAs o r
  pub pieces : (machine_of o).pieces ≡ (state_of r).pieces
  pub begun : (machine_of o).begun ≡ (state_of r).begun
  pub steps : (machine_of o).steps ≡ (state_of r).steps
  pub dump : table.dump_of code o ≡ results.dump_of r

-- the code comes to an end, without being stuck, and shows what the program means: by environments, and by copying
pub record RunsAsItMeans (set : Setting) (program : phrases.Phrase) : Type 0 where
  pub run : Runs set (program_code program)
  pub by_environments : Shows (program_code program) run.outcome (outcome_by_environments set program)
  pub by_copying : Shows (program_code program) run.outcome (outcome set program)

-- The code of a typed program that never goes wrong runs as it means.
abbrev pub ProgramsRunAsTheyMean : Type 0
ProgramsRunAsTheyMean = (set : Setting) (p : TypedProgram) → NeverGoesWrong set (program_phrase p) → RunsAsItMeans set (program_phrase p)

-- ---- decks

-- what the code of a program is: it is well-formed, it always ends, and for all data and limits it runs as the program means
pub record HasRightCode (program : phrases.Phrase) : Type 0 where
  pub well_formed : WellFormed (program_code program).instructions
  pub ends : AlwaysEnds (program_code program)
  pub runs : (set : Setting) → RunsAsItMeans set program

-- So is that of every program without faults of a deck.
abbrev pub CodeOfProgramsIsRight : Type 0
CodeOfProgramsIsRight = (x : Phrase) → program_faults x ≡ [] → IsDeckTree x → HasRightCode (program_phrase (program_of x))

-- A deck that has no diagnostic, alone or with its library, is a program, whose code is right.
abbrev pub CodeOfDecksIsRight : Type 0
CodeOfDecksIsRight = (library : Option (List (List ℕ))) (deck : List (List ℕ)) → StandsBefore library deck → job_diagnostics library deck ≡ [] → (x : Phrase) × JobHasProgram library deck x × HasRightCode (program_phrase (program_of x))

-- ---- jobs

-- The tokens of the job's deck, with its library, spell a program without faults, and the result is what the run of its code shows.
pub record IsRunByTable (job : JobView) (result : JobResult) : Type 0 where
  pub program : Phrase
  pub spelled : JobHasProgram (job_library job) job.deck program
  pub faultless : program_faults program ≡ []
  pub run : Runs (setting_of job) (program_code (program_phrase (program_of program)))
  pub is : result ≡ table_result job (program_of program).statements (program_code (program_phrase (program_of program))) run.outcome

-- Every job is diagnosed, or its result is what the run of its program's code shows.
abbrev pub JobsRunByTable : Type 0
JobsRunByTable = (job : JobView) → StandsBefore (job_library job) job.deck → IsDiagnosed job (job_result job) ⊎ IsRunByTable job (job_result job)

-- So it is with each job of a batch, whatever the accounts and the input.
abbrev pub BatchesRunByTable : Type 0
BatchesRunByTable = (given : Option (List Account)) (bytes : List ℕ) → All (λ job. IsDiagnosed job (job_result job) ⊎ IsRunByTable job (job_result job)) (batch_with given bytes).jobs

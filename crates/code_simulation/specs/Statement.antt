-- The table's run of a program's code has the outcome of the program's meaning by environments.
use Rattle.std.specs.Prelude.{◌≡◌, ℕ}
use Rattle.value_ops.specs.declared.places.Place.{Place}
use Rattle.algolw_typing.specs.Programs.{TypedProgram}
use Rattle.program_meaning.specs.Phrases.{Phrase}
use Rattle.program_meaning.specs.State as state
use Rattle.program_meaning.specs.State.{State, Setting, Why, by_fault, by_limit, wrong, unfinished, Outcome, on, jump, stop, for_value}
use Rattle.program_meaning.specs.Translating.{program_phrase}
use Rattle.program_meaning.specs.Copying.{Closed}
use Rattle.program_meaning.specs.Environments.{Bodied, phrase_job, empty, run}
use Rattle.program_meaning.specs.Results as results
use Rattle.program_meaning.specs.Results.{initial, nowhere, outcome, state_of}
use Rattle.stack_code.specs.Code.{Code}
use Rattle.stack_code.specs.Machine.{Machine}
use Rattle.stack_code.specs.Ending.{Runs}
use Rattle.stack_code.specs.Run as table
use Rattle.stack_code.specs.Run.{normal, stopped, RunsTo, dump_lines, machine_of}
use Rattle.phrase_code.specs.Coding.{program_code}
use Rattle.code_simulation.specs.Written.{IsWritten}

-- the same lines, counts and steps
pub record Counts (m : Machine) (s : State Bodied) : Type 0 where
  pub pieces : m.pieces ≡ s.pieces
  pub begun : m.begun ≡ s.begun
  pub steps : m.steps ≡ s.steps

-- and the same dump
pub record Ends (set : Setting) (program : Code) (y : Why) (w : Place) (s : State Bodied) : Type 0 where
  pub end : Machine
  pub runs : RunsTo set program (stopped y w end)
  pub counts : Counts end s
  pub dump : dump_lines program end ≡ results.dump_lines s

pub record EndsWell (set : Setting) (program : Code) (s : State Bodied) : Type 0 where
  pub end : Machine
  pub runs : RunsTo set program (normal end)
  pub counts : Counts end s

-- the table does what an outcome of the meaning says; nothing is claimed where that is wrong or unfinished
abbrev pub TableDoes : Setting → Code → Outcome Bodied state.Given → Type 0
TableDoes set program (on r s) = EndsWell set program s
TableDoes set program (jump l s) = ⊥
TableDoes set program (stop (by_fault f) w s) = Ends set program (by_fault f) w s
TableDoes set program (stop (by_limit f) w s) = Ends set program (by_limit f) w s
TableDoes set program (stop wrong w s) = Unit {0}
TableDoes set program (stop unfinished w s) = Unit {0}

abbrev pub CodeDoesWhatTheProgramDoes : Type 0
CodeDoesWhatTheProgramDoes = (set : Setting) (n : ℕ) (program : Phrase) → IsWritten program → TableDoes set (program_code program) (run set n (phrase_job for_value nowhere program empty) initial)

-- the program of a deck whose names and types are right
abbrev pub CodeDoesWhatTheTypedProgramDoes : Type 0
CodeDoesWhatTheTypedProgramDoes = (set : Setting) (n : ℕ) (p : TypedProgram) →
    TableDoes set (program_code (program_phrase p)) (run set n (phrase_job for_value nowhere (program_phrase p) empty) initial)

-- ---- what a job shows

-- a run of the table ends as one of the meaning: normally, or stopped for the same reason in the same statement
abbrev pub EndsAs : table.Outcome → Outcome Closed state.Given → Type 0
EndsAs (normal m) (on r s) = Unit {0}
EndsAs (stopped y w m) (stop y' w' s) = (y ≡ y') × (w ≡ w')
EndsAs o r = ⊥

-- rows come to a right outcome, which ends so, with the same pieces, begun statements, steps and dump
pub record RunsAs (set : Setting) (program : Code) (r : Outcome Closed state.Given) : Type 0 where
  pub run : Runs set program
  pub ends : EndsAs run.outcome r
  pub ending : table.ending_text run.outcome ≡ results.ending_text r
  pub pieces : (machine_of run.outcome).pieces ≡ (state_of r).pieces
  pub begun : (machine_of run.outcome).begun ≡ (state_of r).begun
  pub steps : (machine_of run.outcome).steps ≡ (state_of r).steps
  pub dump : table.dump_of program run.outcome ≡ results.dump_of r

-- it does, but where the meaning is wrong, of which nothing is claimed
abbrev pub TableRunsAs : Setting → Code → Outcome Closed state.Given → Type 0
TableRunsAs set program (on r s) = RunsAs set program (on r s)
TableRunsAs set program (jump l s) = ⊥
TableRunsAs set program (stop (by_fault f) w s) = RunsAs set program (stop (by_fault f) w s)
TableRunsAs set program (stop (by_limit f) w s) = RunsAs set program (stop (by_limit f) w s)
TableRunsAs set program (stop wrong w s) = Unit {0}
TableRunsAs set program (stop unfinished w s) = ⊥

-- The code of a typed program runs as the program means by copying.
abbrev pub CodeRunsAsTheProgramMeans : Type 0
CodeRunsAsTheProgramMeans = (set : Setting) (p : TypedProgram) → TableRunsAs set (program_code (program_phrase p)) (outcome set (program_phrase p))

-- The code of a program that never goes wrong runs as it means.
use Rattle.std.proofs.Common.{refl, sym, ◌∙◌, subst, suc}
use Rattle.program_meaning.specs.State as state
use Rattle.program_meaning.specs.State.{Setting, Given, by_fault, by_limit, wrong, unfinished, on, jump, stop}
use Rattle.program_meaning.specs.Environments.{Bodied}
use Rattle.program_meaning.specs.Closing.{closed_outcome}
use Rattle.program_meaning.specs.Results.{outcome}
use Rattle.program_meaning.specs.Translating.{program_phrase}
use Rattle.stack_code.specs.Code.{Code}
use Rattle.stack_code.specs.Run as table
use Rattle.stack_code.specs.Run.{normal, stopped}
use Rattle.stack_code.specs.Ending.{Runs}
use Rattle.phrase_code.specs.Coding.{program_code}
use Rattle.code_simulation.specs.Statement.{TableDoes}
use Rattle.code_simulation.proofs.Running.{dump_closed, outcome_closed}
use Rattle.code_simulation.proofs.TypedPrograms.{code_does_what_the_typed_program_does}
use Rattle.program_soundness.specs.Laws.{IsNeverWrong, outcome_by_environments}
use Rattle.program_runs.specs.Laws.{Shows, ProgramsRunAsTheyMean}

-- the run, and what it shows of an outcome of the meaning by environments
record Shown (set : Setting) (code : Code) (r : state.Outcome Bodied Given) : Type 0 where
  run : Runs set code
  shows : Shows code run.outcome r

shown : (set : Setting) (code : Code) (r : state.Outcome Bodied Given) → IsNeverWrong r → TableDoes set code r → Shown set code r
shown set code (on a s) h x = record {
  run = record { outcome = normal x.end; comes = x.runs; right = tt };
  shows = record { ends = tt; pieces = x.counts.pieces; begun = x.counts.begun; steps = x.counts.steps; dump = refl };
}
shown set code (jump l s) h x = absurd x
shown set code (stop (by_fault f) w s) h x = record {
  run = record { outcome = stopped (by_fault f) w x.end; comes = x.runs; right = tt };
  shows = record { ends = (refl, refl); pieces = x.counts.pieces; begun = x.counts.begun; steps = x.counts.steps; dump = x.dump };
}
shown set code (stop (by_limit f) w s) h x = record {
  run = record { outcome = stopped (by_limit f) w x.end; comes = x.runs; right = tt };
  shows = record { ends = (refl, refl); pieces = x.counts.pieces; begun = x.counts.begun; steps = x.counts.steps; dump = x.dump };
}
shown set code (stop wrong w s) h x = absurd h
shown set code (stop unfinished w s) h x = absurd h

-- what shows an outcome shows it where its procedures are closed
shows_closed : (code : Code) (o : table.Outcome) (r : state.Outcome Bodied Given) → Shows code o r → Shows code o (closed_outcome (λ a. a) r)
shows_closed code (normal m) (on a s) x = record { ends = tt; pieces = x.pieces; begun = x.begun; steps = x.steps; dump = x.dump }
shows_closed code (normal m) (jump l s) x = absurd x.ends
shows_closed code (normal m) (stop y w s) x = absurd x.ends
shows_closed code (stopped z v m) (on a s) x = absurd x.ends
shows_closed code (stopped z v m) (jump l s) x = absurd x.ends
shows_closed code (stopped z v m) (stop y w s) x = record { ends = x.ends; pieces = x.pieces; begun = x.begun; steps = x.steps; dump = x.dump ∙ sym (dump_closed s) }

pub programs_run_as_they_mean : ProgramsRunAsTheyMean
programs_run_as_they_mean set p h =
    let a = program_phrase p in
    let x = shown set (program_code a) (outcome_by_environments set a) h.by_environments (code_does_what_the_typed_program_does set (suc set.steps) p) in
    record { run = x.run; by_environments = x.shows; by_copying = subst (Shows (program_code a) x.run.outcome) (outcome_closed set a) (shows_closed (program_code a) x.run.outcome (outcome_by_environments set a) x.shows) }

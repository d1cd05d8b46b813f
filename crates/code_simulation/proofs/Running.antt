-- What a run of a program's code shows is what the meaning by copying shows.
use Rattle.std.proofs.Common.{◌≡◌, suc, ◌+◌, List, [], ◌∷◌, ◌++◌, map, Option, Some, None, refl, sym, ap, ◌∙◌, subst, arith}
use Rattle.std.specs.Prelude.{slice_get, take}
use Rattle.value_ops.specs.declared.values.Value.{Value}
use Rattle.value_ops.specs.declared.values.Value.TheVariants as value
use Rattle.post_mortem.specs.declared.entries.Entry.TheVariants as line
use Rattle.post_mortem.specs.Dump.{dump_text}
use Rattle.program_meaning.specs.Phrases.{Phrase}
use Rattle.program_meaning.specs.Translating.{program_phrase}
use Rattle.program_meaning.specs.State as state
use Rattle.program_meaning.specs.State.{State, Setting, by_fault, by_limit, wrong, unfinished, Outcome, on, jump, stop, RecordInfo, Held, ShownName, for_value}
use Rattle.program_meaning.specs.Copying as copying
use Rattle.program_meaning.specs.Environments.{Bodied, phrase_job, empty, run}
use Rattle.program_meaning.specs.Closing.{closed_state, closed_outcome, put_by}
use Rattle.program_meaning.specs.Results as results
use Rattle.program_meaning.specs.Results.{initial, nowhere, outcome}
use Rattle.program_meaning.specs.Laws.{IsFinished}
use Rattle.program_meaning.proofs.Putting.{with_none}
use Rattle.program_meaning.proofs.Law.{environments_give_what_copying_gives}
use Rattle.program_meaning.proofs.Runs.{runs_keep_their_limits}
use Rattle.stack_code.specs.Code.{Code}
use Rattle.stack_code.specs.Machine.{at_first}
use Rattle.stack_code.specs.Run.{rows, normal, stopped}
use Rattle.phrase_code.specs.Coding.{program_code}
use Rattle.code_simulation.specs.Statement.{TableDoes, TableRunsAs, CodeRunsAsTheProgramMeans}
use Rattle.code_simulation.proofs.TypedPrograms.{code_does_what_the_typed_program_does}

-- ---- what is shown of a state is shown of it where its procedures are closed

module _ (s : State Bodied) where
  value_closed : (v : Value) → results.shown_value (closed_state s) v ≡ results.shown_value s v
  value_closed (value.Reference (Some r)) = refl
  value_closed (value.Reference None) = refl
  value_closed (value.Integer n) = refl
  value_closed (value.Logical n) = refl
  value_closed (value.Bits n) = refl
  value_closed (value.Str n) = refl

  variable_closed : (o : Option (Option Value)) → results.shown_variable (closed_state s) o ≡ results.shown_variable s o
  variable_closed None = refl
  variable_closed (Some None) = refl
  variable_closed (Some (Some v)) = value_closed v

  held_closed : (x : Held) → results.shown_held (closed_state s) x ≡ results.shown_held s x
  held_closed (state.a_variable k) = variable_closed (slice_get s.memory k)
  held_closed (state.an_array k given) = refl
  held_closed (state.a_number n) = refl
  held_closed state.by_name = refl
  held_closed state.a_procedure = refl

  names_closed : (xs : List ShownName) → results.shown_names (closed_state s) xs ≡ results.shown_names s xs
  names_closed [] = refl
  names_closed (x ∷ xs) = ap (λ z. line.Shown x.text z ∷ results.shown_names (closed_state s) xs) (held_closed x.held) ∙ ap (λ z. line.Shown x.text (results.shown_held s x.held) ∷ z) (names_closed xs)

  entry_closed : (e : state.Entry) → results.entry_lines (closed_state s) e ≡ results.entry_lines s e
  entry_closed (state.in_block p xs) = ap (λ z. line.Block p ∷ z) (names_closed xs)
  entry_closed (state.in_call x p xs) = ap (λ z. line.Call x p ∷ z) (names_closed xs)
  entry_closed (state.in_actual p) = refl
  entry_closed (state.in_turn p xs) = ap (λ z. line.For p ∷ z) (names_closed xs)

  lines_closed : (es : List state.Entry) → results.all_lines (closed_state s) es ≡ results.all_lines s es
  lines_closed [] = refl
  lines_closed (e ∷ es) = ap (λ z. z ++ results.all_lines (closed_state s) es) (entry_closed e) ∙ ap (λ z. results.entry_lines s e ++ z) (lines_closed es)

  pub dump_closed : results.dump_lines (closed_state s) ≡ results.dump_lines s
  dump_closed = ap (λ l. map dump_text (take 40 l)) (lines_closed s.active)

-- ---- the theorem

-- what the table does by environments, it does by copying
runs_as : (set : Setting) (program : Code) (r : Outcome Bodied state.Given) → TableDoes set program r → IsFinished (closed_outcome (λ a. a) r) → TableRunsAs set program (closed_outcome (λ a. a) r)
runs_as set program (on a s) x f = record { run = record { outcome = normal x.end; comes = x.runs; right = tt }; ends = tt; ending = refl; pieces = x.counts.pieces; begun = x.counts.begun; steps = x.counts.steps; dump = refl }
runs_as set program (jump l s) x f = absurd x
runs_as set program (stop (by_fault y) w s) x f = record { run = record { outcome = stopped (by_fault y) w x.end; comes = x.runs; right = tt }; ends = (refl, refl); ending = refl; pieces = x.counts.pieces; begun = x.counts.begun; steps = x.counts.steps; dump = x.dump ∙ sym (dump_closed s) }
runs_as set program (stop (by_limit y) w s) x f = record { run = record { outcome = stopped (by_limit y) w x.end; comes = x.runs; right = tt }; ends = (refl, refl); ending = refl; pieces = x.counts.pieces; begun = x.counts.begun; steps = x.counts.steps; dump = x.dump ∙ sym (dump_closed s) }
runs_as set program (stop wrong w s) x f = tt
runs_as set program (stop unfinished w s) x f = f refl

-- the outcome by copying is that by environments, closed
pub outcome_closed : (set : Setting) (a : Phrase) → closed_outcome (λ z. z) (run set (suc set.steps) (phrase_job for_value nowhere a empty) initial) ≡ outcome set a
outcome_closed set a = environments_give_what_copying_gives set (suc set.steps) (phrase_job for_value nowhere a empty) initial ∙ ap (λ q. copying.run set (suc set.steps) (copying.phrase_job for_value nowhere q) initial) (with_none a (put_by empty) (λ x. refl))

pub code_runs_as_the_program_means : CodeRunsAsTheProgramMeans
code_runs_as_the_program_means set p =
    let a = program_phrase p in
    let n = suc set.steps in
    let same = outcome_closed set a in
    subst (TableRunsAs set (program_code a)) same
    (runs_as set (program_code a) (run set n (phrase_job for_value nowhere a empty) initial) (code_does_what_the_typed_program_does set n p) (subst IsFinished (sym same) (runs_keep_their_limits set a).finished))

-- The code of decks, and the results of jobs.
use Rattle.std.proofs.Common.{◌≡◌, ℕ, List, [], ◌∷◌, ◌++◌, length, refl, sym, ap, ◌∙◌, inl, inr}
use Rattle.std.specs.Prelude.{◌⊎◌, Option, take, codes}
use Rattle.value_ops.specs.declared.places.Diagnostic.{Diagnostic}
use Rattle.value_ops.specs.declared.places.Place.{Place}
use Rattle.deck_reader.specs.JobView.{JobView}
use Rattle.output_editing.specs.Layout.{Piece, lay}
use Rattle.algolw_tree.specs.Tree.{Phrase}
use Rattle.algolw_typing.specs.Faults.{program_faults}
use Rattle.algolw_typing.specs.Programs.{program_of}
use Rattle.program_meaning.specs.State as state
use Rattle.program_meaning.specs.State.{Setting, Given, on, jump, stop}
use Rattle.program_meaning.specs.Copying.{Closed}
use Rattle.program_meaning.specs.Results as results
use Rattle.program_meaning.specs.Results.{state_of, why_text}
use Rattle.program_meaning.specs.Translating.{program_phrase}
use Rattle.stack_code.specs.Code.{Code}
use Rattle.stack_code.specs.Run as table
use Rattle.stack_code.specs.Run.{normal, stopped, machine_of}
use Rattle.phrase_code.specs.Coding.{program_code}
use Rattle.phrase_code.proofs.Fitting.{program_code_is_well_formed}
use Rattle.faultless_programs.proofs.Programs.{programs_without_faults_are_never_wrong}
use Rattle.algolw_meaning.specs.DeckDiagnostics.{JobHasProgram, JobHasDiagnostics, job_diagnostics}
use Rattle.algolw_meaning.proofs.Composing.{diagnostics_of_jobs}
use Rattle.algolw_meaning.specs.Meaning.{JobResult, counts_of, job_library}
use Rattle.algolw_meaning.specs.Running as meaning
use Rattle.algolw_meaning.specs.Running.{setting_of, run_result, program_outcome, job_result, counted_lines, lines, stopped_by}
use Rattle.algolw_meaning.specs.Texts.{sum_line}
use Rattle.deck_programs.specs.Laws.{IsDiagnosed, IsRun, StandsBefore}
use Rattle.deck_programs.proofs.Batches.{jobs_stand_before}
use Rattle.deck_programs.proofs.Jobs.{jobs_are_never_wrong}
use Rattle.deck_programs.proofs.Together.{trees_of_jobs}
use Rattle.program_runs.specs.Shown.{ending_of, dump_section, table_result}
use Rattle.algolw_meaning.specs.declared.ending.Ending.{Ending}
use Rattle.program_runs.specs.Laws.{Shows, RunsAsItMeans, HasRightCode, CodeOfProgramsIsRight, CodeOfDecksIsRight, IsRunByTable, JobsRunByTable, BatchesRunByTable}
use Rattle.program_runs.proofs.Runs.{programs_run_as_they_mean}

-- ---- decks

pub code_of_programs_is_right : CodeOfProgramsIsRight
code_of_programs_is_right x e d =
    let runs : (set : Setting) → RunsAsItMeans set (program_phrase (program_of x)) = λ set. programs_run_as_they_mean set (program_of x) (programs_without_faults_are_never_wrong set x e d) in
    record { well_formed = program_code_is_well_formed (program_phrase (program_of x)); ends = λ set. (runs set).run; runs = runs }

-- what the tokens of a deck spell, with its library, without faults
pub spelled_is_right : (library : Option (List (List ℕ))) (deck : List (List ℕ)) (x : Phrase) → StandsBefore library deck → JobHasProgram library deck x → program_faults x ≡ [] → HasRightCode (program_phrase (program_of x))
spelled_is_right library deck x before h e = code_of_programs_is_right x e (trees_of_jobs.trees library deck x before h)

pub code_of_decks_is_right : CodeOfDecksIsRight
code_of_decks_is_right library deck before e = by (job_diagnostics library deck) (diagnostics_of_jobs library deck) e
  where
    by : (found : List Diagnostic) → JobHasDiagnostics library deck found → found ≡ [] → (x : Phrase) × JobHasProgram library deck x × HasRightCode (program_phrase (program_of x))
    by found (inl (d, h, q)) e = absurd (cc (q, e))
    by found (inr (x, h, q)) e = (x, h, spelled_is_right library deck x before h (sym q ∙ e))

-- ---- jobs

module _ (job : JobView) (statements : List Place) (code : Code) where
  -- the section, by what goes into it
  abbrev section : List (List ℕ) → List (List ℕ) → List (List ℕ) → ℕ → Ending → JobResult
  section source printed end steps how = record { body = lines (source ++ (codes "OUTPUT" ∷ printed ++ end)) ++ sum_line (counts_of job.cards steps (length printed)); counts = counts_of job.cards steps (length printed); ending = how }

  -- from the pieces, the statements begun and the steps
  abbrev result_by : List Piece → List Place → ℕ → List (List ℕ) → Ending → JobResult
  result_by pieces begun steps end how = section (counted_lines statements begun 1 job.deck) (take job.lines (lay pieces)) end steps how

  same_result : (o : table.Outcome) (r : state.Outcome Closed Given) → table.ending_text o ∷ dump_section code o ≡ results.ending_text r ∷ meaning.dump_section r → ending_of o ≡ meaning.ending_of r → Shows code o r → run_result job statements r ≡ table_result job statements code o
  same_result o r e f x =
      let p = (machine_of o).pieces in
      let b = (machine_of o).begun in
      let n = (machine_of o).steps in
      let end = table.ending_text o ∷ dump_section code o in
      sym (ap (λ z. result_by z b n end (ending_of o)) x.pieces
      ∙ ap (λ z. result_by (state_of r).pieces z n end (ending_of o)) x.begun
      ∙ ap (λ z. result_by (state_of r).pieces (state_of r).begun z end (ending_of o)) x.steps
      ∙ ap (λ z. result_by (state_of r).pieces (state_of r).begun (state_of r).steps z (ending_of o)) e
      ∙ ap (λ z. result_by (state_of r).pieces (state_of r).begun (state_of r).steps (results.ending_text r ∷ meaning.dump_section r) z) f)

  pub shown_result : (o : table.Outcome) (r : state.Outcome Closed Given) → Shows code o r → run_result job statements r ≡ table_result job statements code o
  shown_result (normal m) (on a s) x = same_result (normal m) (on a s) refl refl x
  shown_result (stopped y w m) (stop z v s) x =
      same_result (stopped y w m) (stop z v s)
      (ap (λ t. why_text t w ∷ codes "POST-MORTEM" ∷ table.dump_lines code m) x.ends.0 ∙ ap (λ t. why_text z t ∷ codes "POST-MORTEM" ∷ table.dump_lines code m) x.ends.1 ∙ ap (λ t. why_text z v ∷ codes "POST-MORTEM" ∷ t) x.dump)
      (ap stopped_by x.ends.0) x
  shown_result (normal m) (jump l s) x = absurd x.ends
  shown_result (normal m) (stop z v s) x = absurd x.ends
  shown_result (stopped y w m) (on a s) x = absurd x.ends
  shown_result (stopped y w m) (jump l s) x = absurd x.ends

run_by_table : (job : JobView) (result : JobResult) → StandsBefore (job_library job) job.deck → IsRun job result → IsRunByTable job result
run_by_table job result before x =
    let p = program_of x.program in
    let r = (spelled_is_right (job_library job) job.deck x.program before x.spelled x.faultless).runs (setting_of job) in
    record { program = x.program; spelled = x.spelled; faultless = x.faultless; run = r.run; is = x.is ∙ shown_result job p.statements (program_code (program_phrase p)) r.run.outcome (program_outcome job p) r.by_copying }

pub jobs_run_by_table : JobsRunByTable
jobs_run_by_table job before = by (jobs_are_never_wrong job before)
  where
    by : IsDiagnosed job (job_result job) ⊎ IsRun job (job_result job) → IsDiagnosed job (job_result job) ⊎ IsRunByTable job (job_result job)
    by (inl d) = inl d
    by (inr x) = inr (run_by_table job (job_result job) before x)

pub batches_run_by_table : BatchesRunByTable
batches_run_by_table given bytes k job less = jobs_run_by_table _ (jobs_stand_before given bytes k job less)

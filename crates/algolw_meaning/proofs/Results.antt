-- What a job gives, by the tokens of its deck and its library.
use Rattle.std.proofs.Common.{◌≡◌, List, [], ◌∷◌, take, refl, sym, ap, ◌∙◌}
use Rattle.std.specs.Prelude.{◌≢◌}
use Rattle.value_ops.specs.declared.places.Diagnostic.{Diagnostic}
use Rattle.deck_reader.specs.JobView.{JobView}
use Rattle.algolw_tree.specs.Tree.{Phrase}
use Rattle.algolw_typing.specs.Faults.{program_faults}
use Rattle.algolw_typing.specs.Programs.{program_of}
use Rattle.algolw_meaning.specs.DeckDiagnostics.{Deck, IsProgram, IsWrong, NothingFound, IsJobFound, JobHasProgram, diagnostics_found, job_deck}
use Rattle.algolw_meaning.specs.Laws.{IsResult, a_wrong_deck, a_faulty_program, a_run, ResultsOfJobs}
use Rattle.algolw_meaning.specs.Meaning.{diagnosed, job_library, shown_diagnostics}
use Rattle.algolw_meaning.specs.Running.{job_result, program_outcome, result_of_deck, run_result}
use Rattle.algolw_meaning.proofs.Composing.{job_diagnostics_are, job_found, job_only, program_shown}

none_shown : (faults : List Diagnostic) → [] ≡ take 20 faults → faults ≡ []
none_shown [] e = refl
none_shown (d ∷ faults) e = absurd (cc e)

deck_result : (job : JobView) (faults : List Diagnostic) (deck : Deck) → IsJobFound (job_library job) job.deck deck → faults ≡ take 20 (diagnostics_found deck) → IsResult job (result_of_deck faults deck job)
deck_result job [] (IsProgram x) h e = a_run x h (none_shown (program_faults x) e) refl
deck_result job (d ∷ faults) (IsProgram x) h e = a_faulty_program x d faults h (sym e) refl
deck_result job faults (IsWrong d) h e = a_wrong_deck d h (ap (λ ds. result_of_deck ds (IsWrong d) job) e)
deck_result job faults NothingFound h e = absurd h

pub results_of_jobs : ResultsOfJobs
results_of_jobs job =
    let library = job_library job in
    deck_result job (shown_diagnostics library job.deck) (job_deck library job.deck) (job_found library job.deck) (ap (take 20) (job_diagnostics_are library job.deck))

-- the result of a job whose program has no faults is that of its run
pub run_is : (job : JobView) (x : Phrase) → JobHasProgram (job_library job) job.deck x → program_faults x ≡ [] → job_result job ≡ run_result job (program_of x).statements (program_outcome job (program_of x))
run_is job x h e =
    let library = job_library job in
    ap (λ (faults : List Diagnostic). result_of_deck faults (job_deck library job.deck) job) (program_shown library job.deck x h ∙ ap (take 20) e)
    ∙ ap (λ (deck : Deck). result_of_deck [] deck job) (sym (job_only library job.deck (IsProgram x) h))

shown_first : (faults : List Diagnostic) (deck : Deck) (job : JobView) → faults ≢ [] → result_of_deck faults deck job ≡ diagnosed faults job
shown_first [] deck job some = absurd (some refl)
shown_first (d ∷ faults) deck job some = refl

-- that of one for which diagnostics are shown shows them
pub diagnosed_is : (job : JobView) (faults : List Diagnostic) → faults ≢ [] → faults ≡ shown_diagnostics (job_library job) job.deck → job_result job ≡ diagnosed faults job
diagnosed_is job faults some e =
    let deck = job_deck (job_library job) job.deck in
    ap (λ (fs : List Diagnostic). result_of_deck fs deck job) (sym e) ∙ shown_first faults deck job some

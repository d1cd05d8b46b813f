-- Decks and jobs are never wrong.
use Rattle.std.proofs.Common.{◌≡◌, ℕ, List, [], refl, sym, ◌∙◌, inl, inr}
use Rattle.std.specs.Prelude.{◌⊎◌, Option, false, true}
use Rattle.deck_reader.specs.JobView.{JobView}
use Rattle.algolw_tree.specs.Tree.{Phrase}
use Rattle.algolw_typing.specs.Faults.{program_faults}
use Rattle.algolw_typing.specs.Programs.{program_of}
use Rattle.program_meaning.specs.State.{Setting, Outcome, Given, on, jump, stop, by_fault, by_limit, wrong, unfinished}
use Rattle.program_meaning.specs.Copying.{Closed}
use Rattle.program_meaning.specs.Results.{ending_text}
use Rattle.program_meaning.specs.Translating.{program_phrase}
use Rattle.program_soundness.specs.Laws.{IsNeverWrong, NeverGoesWrong}
use Rattle.faultless_programs.proofs.Programs.{programs_without_faults_are_never_wrong}
use Rattle.algolw_meaning.specs.DeckDiagnostics.{Deck, IsProgram, IsWrong, NothingFound, IsJobFound, JobHasProgram, diagnostics_found, job_deck}
use Rattle.algolw_meaning.specs.Laws.{IsResult, a_wrong_deck, a_faulty_program, a_run}
use Rattle.algolw_meaning.specs.Meaning.{JobResult, job_library}
use Rattle.algolw_meaning.specs.Running.{setting_of, program_outcome, job_result}
use Rattle.deck_programs.specs.Laws.{DecksAreNeverWrong, JobsAreNeverWrong, TextsTellWrong, IsDiagnosed, IsRun, StandsBefore, is_wrong_text}
use Rattle.algolw_meaning.proofs.Composing.{job_diagnostics_are, job_found}
use Rattle.algolw_meaning.proofs.Results.{results_of_jobs}
use Rattle.deck_programs.proofs.Together.{trees_of_jobs}

-- a program that the tokens of a deck spell, with its library, without faults
spelled_never_wrong : (library : Option (List (List ℕ))) (deck : List (List ℕ)) (x : Phrase) → StandsBefore library deck → JobHasProgram library deck x → program_faults x ≡ [] → (set : Setting) → NeverGoesWrong set (program_phrase (program_of x))
spelled_never_wrong library deck x before h e set = programs_without_faults_are_never_wrong set x e (trees_of_jobs.trees library deck x before h)

deck_case : (library : Option (List (List ℕ))) (deck : List (List ℕ)) (d : Deck) → StandsBefore library deck → IsJobFound library deck d → diagnostics_found d ≡ [] → (x : Phrase) × JobHasProgram library deck x × ((set : Setting) → NeverGoesWrong set (program_phrase (program_of x)))
deck_case library deck (IsProgram x) before h e = (x, h, spelled_never_wrong library deck x before h e)
deck_case library deck (IsWrong d) before h e = absurd (cc e)
deck_case library deck NothingFound before h e = absurd h

pub decks_are_never_wrong : DecksAreNeverWrong
decks_are_never_wrong library deck before e = deck_case library deck (job_deck library deck) before (job_found library deck) (sym (job_diagnostics_are library deck) ∙ e)

-- ---- jobs

pub texts_tell_wrong : TextsTellWrong
texts_tell_wrong (on a s) = inl (tt, refl)
texts_tell_wrong (jump l s) = inr (λ h. h, refl)
texts_tell_wrong (stop (by_fault f) w s) = inl (tt, refl)
texts_tell_wrong (stop (by_limit l) w s) = inl (tt, refl)
texts_tell_wrong (stop wrong w s) = inr (λ h. h, refl)
texts_tell_wrong (stop unfinished w s) = inr (λ h. h, refl)

text_is_right : (o : Outcome Closed Given) → IsNeverWrong o → is_wrong_text (ending_text o) ≡ false
text_is_right o h = go (texts_tell_wrong o)
  where
    go : (IsNeverWrong o × (is_wrong_text (ending_text o) ≡ false)) ⊎ ((IsNeverWrong o → ⊥) × (is_wrong_text (ending_text o) ≡ true)) → is_wrong_text (ending_text o) ≡ false
    go (inl x) = x.1
    go (inr x) = absurd (x.0 h)

job_case : (job : JobView) (result : JobResult) → StandsBefore (job_library job) job.deck → IsResult job result → IsDiagnosed job result ⊎ IsRun job result
job_case job result before (a_wrong_deck d h e) = inl (record { first = d; others = []; is = e })
job_case job result before (a_faulty_program x d faults h f e) = inl (record { first = d; others = faults; is = e })
job_case job result before (a_run x h n e) =
    let w = (spelled_never_wrong (job_library job) job.deck x before h n (setting_of job)).by_copying in
    inr (record { program = x; spelled = h; faultless = n; is = e; never_wrong = w; text = text_is_right (program_outcome job (program_of x)) w })

pub jobs_are_never_wrong : JobsAreNeverWrong
jobs_are_never_wrong job before = job_case job (job_result job) before (results_of_jobs job)

-- Runs print texts.
use Rattle.std.proofs.Common.{◌≡◌, ℕ, suc, List, [], ◌∷◌, All, subst, ap, ◌∙◌}
use Rattle.std.proofs.lemmas.List.Elements.{All-nil, All-cons}
use Rattle.std.specs.Prelude.{Option, Some, None, pos}
use Rattle.value_ops.specs.declared.values.Value.{Value}
use Rattle.value_ops.specs.declared.values.Value.TheVariants as value
use Rattle.program_meaning.specs.Phrases.{Phrase}
use Rattle.program_meaning.specs.State.{State, Outcome, on, jump, stop, Setting, for_value, Given}
use Rattle.program_meaning.specs.Copying as copying
use Rattle.program_meaning.specs.Environments as environments
use Rattle.program_meaning.specs.Environments.{Bodied, empty}
use Rattle.program_meaning.specs.Closing.{closed_state, closed_outcome, put_by}
use Rattle.program_meaning.specs.Results.{initial, nowhere, outcome, state_of, printed_lines}
use Rattle.program_meaning.proofs.Law.{environments_give_what_copying_gives}
use Rattle.program_meaning.proofs.Opening.{closed_job_again}
use Rattle.printed_lines.specs.Texts.{IsText}
use Rattle.printed_lines.specs.Phrases.{PhraseHolds}
use Rattle.printed_lines.specs.States.{VariableHolds, RecordHolds, PieceHolds, EntryHolds, StateHolds}
use Rattle.printed_lines.specs.Laws.{RunsPrintTexts}
use Rattle.printed_lines.proofs.Holding.{Holding, Held, GivenHolds, BodiedHolds}
use Rattle.printed_lines.proofs.Going.{holds_run}
use Rattle.printed_lines.proofs.Lines.{lines_texts, dumped_texts, dumped_indented}

state_holds : (s : State Bodied) → Holding s → StateHolds (closed_state s)
state_holds s h = record { memory = h.0; records = h.1; pieces = h.2; active = h.3 }

closed_holds : (r : Outcome Bodied Given) → Held GivenHolds r → StateHolds (state_of (closed_outcome (λ a. a) r))
closed_holds (on a s) h = state_holds s h.1
closed_holds (jump l s) h = state_holds s h
closed_holds (stop y w s) h = state_holds s h

at_first : Holding initial
at_first = (All-cons VariableHolds (Some (value.Integer (pos 14))) (Some (value.Integer (pos 2)) ∷ []) tt (All-cons VariableHolds (Some (value.Integer (pos 2))) [] tt (All-nil VariableHolds)), All-nil RecordHolds, All-nil PieceHolds, All-nil EntryHolds, All-nil BodiedHolds)

run_holds : (set : Setting) (program : Phrase) → PhraseHolds program → All IsText set.cards → StateHolds (state_of (outcome set program))
run_holds set program h cards =
    let job : environments.Job = environments.phrase_job for_value nowhere program empty in
    let r : Outcome Bodied Given = environments.run set (suc set.steps) job initial in
    let closed : StateHolds (state_of (closed_outcome (λ a. a) r)) = closed_holds r ((holds_run set cards (suc set.steps) job (h, tt)).by initial at_first) in
    subst (λ (j : copying.Job). StateHolds (state_of (copying.run set (suc set.steps) j initial))) (closed_job_again (copying.phrase_job for_value nowhere program))
    (subst (λ (o : Outcome copying.Closed Given). StateHolds (state_of o)) (environments_give_what_copying_gives set (suc set.steps) job initial) closed)

pub runs_print_texts : RunsPrintTexts
runs_print_texts set program h cards =
    let s : StateHolds (state_of (outcome set program)) = run_holds set program h cards in
    record { state = s; printed = lines_texts set.lines (state_of (outcome set program)).pieces s.pieces; dumped = dumped_texts (outcome set program) s; indented = dumped_indented (outcome set program) s }

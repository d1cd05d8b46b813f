use Rattle.std.proofs.Common.{◌≡◌, ◌∙◌, sym, ap, List, ℕ, Option, Some, None}
use Rattle.std.proofs.lemmas.Option.{MatchOption-at_some, MatchOption-at_none}
use Rattle.deck_reader.specs.Forms.{stripped, name_of}
use Rattle.deck_reader.specs.JobCards.{job_with}
use Rattle.deck_reader.proofs.JobCards.{has_fields, counted-job_card, no_job_card, job_with_no_account, job_with_no_settings}
use Rattle.deck_reader.proofs.forms.job_card.Goals as goal

pub returns-in_err-rest : goal.returns-in_err-rest
returns-in_err-rest c =
    c.from_residual-in_err-rest.ensures
    ∙ sym (no_job_card c.args.card.now c.in_ok-behind_word.field-0.now c.next_field.result.0.now c.in_ok-behind_word.ensures (MatchOption-at_none _ _ c.in_err-rest.was c.next_field.ensures))

pub returns-in_err-settings : goal.returns-in_err-settings
returns-in_err-settings c =
    let name = c.next_field.result.0.now in
    let account = c.next_field-2.result.0.now in
    let h = has_fields c.args.card.now c.in_ok-behind_word.field-0.now name c.in_ok-rest.field-0.now account c.settings_of.result c.next_field-2.result.1
    c.in_ok-behind_word.ensures (MatchOption-at_some _ _ c.in_ok-rest.field-0 c.in_ok-rest.was c.next_field.ensures) c.next_field-2.ensures c.settings_of.ensures in
    c.from_residual-in_err-settings.ensures
    ∙ sym (counted-job_card c.args.card.now name account c.settings_of.result h
    ∙ ap (job_with (name_of (stripped name)) (name_of (stripped account))) c.in_err-settings.was
    ∙ job_with_no_settings (name_of (stripped name)) (name_of (stripped account)))

pub returns-in_err-name_of : goal.returns-in_err-name_of
returns-in_err-name_of c =
    let name = c.next_field.result.0.now in
    let account = c.next_field-2.result.0.now in
    let h = has_fields c.args.card.now c.in_ok-behind_word.field-0.now name c.in_ok-rest.field-0.now account c.settings_of.result c.next_field-2.result.1
    c.in_ok-behind_word.ensures (MatchOption-at_some _ _ c.in_ok-rest.field-0 c.in_ok-rest.was c.next_field.ensures) c.next_field-2.ensures c.settings_of.ensures in
    let none : name_of (stripped name) ≡ None = sym (c.name_of.ensures ∙ ap name_of c.stripped.ensures) ∙ c.in_err-name_of.was in
    c.from_residual-in_err-name_of.ensures
    ∙ sym (counted-job_card c.args.card.now name account c.settings_of.result h
    ∙ ap (λ (n : Option (List ℕ)). job_with n (name_of (stripped account)) c.settings_of.result) none)

pub returns-in_err-name_of-2 : goal.returns-in_err-name_of-2
returns-in_err-name_of-2 c =
    let name = c.next_field.result.0.now in
    let account = c.next_field-2.result.0.now in
    let h = has_fields c.args.card.now c.in_ok-behind_word.field-0.now name c.in_ok-rest.field-0.now account c.settings_of.result c.next_field-2.result.1
    c.in_ok-behind_word.ensures (MatchOption-at_some _ _ c.in_ok-rest.field-0 c.in_ok-rest.was c.next_field.ensures) c.next_field-2.ensures c.settings_of.ensures in
    let none : name_of (stripped account) ≡ None = sym (c.name_of-2.ensures ∙ ap name_of c.stripped-2.ensures) ∙ c.in_err-name_of-2.was in
    c.from_residual-in_err-name_of-2.ensures
    ∙ sym (counted-job_card c.args.card.now name account c.settings_of.result h
    ∙ ap (λ (n : Option (List ℕ)). job_with (name_of (stripped name)) n c.settings_of.result) none
    ∙ job_with_no_account (name_of (stripped name)) c.settings_of.result)

pub returns : goal.returns
returns c =
    let name = c.next_field.result.0.now in
    let account = c.next_field-2.result.0.now in
    let h = has_fields c.args.card.now c.in_ok-behind_word.field-0.now name c.in_ok-rest.field-0.now account c.settings_of.result c.next_field-2.result.1
    c.in_ok-behind_word.ensures (MatchOption-at_some _ _ c.in_ok-rest.field-0 c.in_ok-rest.was c.next_field.ensures) c.next_field-2.ensures c.settings_of.ensures in
    let first : name_of (stripped name) ≡ Some c.in_ok-name_of.field-0 = sym (c.name_of.ensures ∙ ap name_of c.stripped.ensures) ∙ c.in_ok-name_of.was in
    let second : name_of (stripped account) ≡ Some c.in_ok-name_of-2.field-0 = sym (c.name_of-2.ensures ∙ ap name_of c.stripped-2.ensures) ∙ c.in_ok-name_of-2.was in
    sym (counted-job_card c.args.card.now name account c.settings_of.result h
    ∙ ap (λ (n : Option (List ℕ)). job_with n (name_of (stripped account)) c.settings_of.result) first
    ∙ ap (λ (n : Option (List ℕ)). job_with (Some c.in_ok-name_of.field-0) n c.settings_of.result) second
    ∙ ap (job_with (Some c.in_ok-name_of.field-0) (Some c.in_ok-name_of-2.field-0)) c.in_ok-settings.was)

use Rattle.std.proofs.Common.{◌≡◌, ℕ, ◌+◌, ◌==◌, Option, Some, None, length, drop, refl, sym, ap, ◌∙◌, arith, rules, tests}
use Rattle.std.proofs.lemmas.Iterator.Consumers.{YieldsList-turn, YieldsList-end, YieldsList-at}
use Rattle.std.proofs.lemmas.Iterator.Splits.{YieldsList-from_slice_split}
use Rattle.std.proofs.lemmas.List.{at_drop_all, length_push}
use Rattle.std.specs.List.{fold}
use Rattle.std.specs.Option.{option_map}
use Rattle.deck_reader.specs.declared.options.Settings.{Settings}
use Rattle.deck_reader.specs.JobCards.{fields}
use Rattle.deck_reader.specs.Options.{unset, with_field, counted_settings}
use Rattle.deck_reader.proofs.Settings.{step, fold-none, turn, from_counted, from_none_counted}
use Rattle.deck_reader.proofs.options.settings_in.Goals as goal

pub loop-field-init : goal.loop-field-init
loop-field-init c = (unset, refl, refl)

pub returns-in_err-settings : goal.returns-in_err-settings
returns-in_err-settings c =
    let fs = fields c.args.text.now in
    let s = c.loop-field.invariant.0 in
    let n = length c.loop-field.yielded in
    let t = YieldsList-turn (YieldsList-at c.into_iter-field-iterator.ensures.into_iter_gives (YieldsList-from_slice_split _ (λ b. b == 44) c.args.text.now c.split-field-items.ensures.rest c.split-field-items.ensures.done c.split-field-items.ensures.closure (λ x r q k. search (rules, tests)))) c.loop-field.yielded _ c.loop-field.yielded_by _ _ c.in-Some.field c.in-Some.is c.next.ensures.steps in
    let none : with_field c.in-Some.field.now s ≡ None = from_none_counted (with_field c.in-Some.field.now s) (sym (c.with.ensures s c.loop-field.invariant.1) ∙ c.in_err-settings.was) in
    c.from_residual.ensures
    ∙ sym (ap (option_map counted_settings) (c.loop-field.invariant.2
    ∙ turn s fs n c.in-Some.field.now t
    ∙ ap (λ (q : Option Settings). fold step q (drop (n + 1) fs)) none
    ∙ fold-none (drop (n + 1) fs)))

pub loop-field-preserved : goal.loop-field-preserved
loop-field-preserved c =
    let fs = fields c.args.text.now in
    let s = c.loop-field.invariant.0 in
    let n = length c.loop-field.yielded in
    let t = YieldsList-turn (YieldsList-at c.into_iter-field-iterator.ensures.into_iter_gives (YieldsList-from_slice_split _ (λ b. b == 44) c.args.text.now c.split-field-items.ensures.rest c.split-field-items.ensures.done c.split-field-items.ensures.closure (λ x r q k. search (rules, tests)))) c.loop-field.yielded _ c.loop-field.yielded_by _ _ c.in-Some.field c.in-Some.is c.next.ensures.steps in
    let given = from_counted (with_field c.in-Some.field.now s) c.in_ok-settings.settings (sym (c.with.ensures s c.loop-field.invariant.1) ∙ c.in_ok-settings.was) in (
      given.0,
      given.2,
      c.loop-field.invariant.2
          ∙ turn s fs n c.in-Some.field.now t
          ∙ ap (λ (q : Option Settings). fold step q (drop (n + 1) fs)) given.1
          ∙ ap (λ (m : ℕ). fold step (Some given.0) (drop m fs)) (sym (length_push c.loop-field.yielded c.in-Some.field)),
    )

pub returns : goal.returns
returns c =
    let fs = fields c.args.text.now in
    let s = c.loop-field.invariant.0 in
    let n = length c.loop-field.yielded in
    let t = YieldsList-end (YieldsList-at c.into_iter-field-iterator.ensures.into_iter_gives (YieldsList-from_slice_split _ (λ b. b == 44) c.args.text.now c.split-field-items.ensures.rest c.split-field-items.ensures.done c.split-field-items.ensures.closure (λ x r q k. search (rules, tests)))) c.loop-field.yielded _ c.loop-field.yielded_by _ _ c.in-None.is c.next.ensures.steps in
    ap Some c.loop-field.invariant.1 ∙ sym (ap (option_map counted_settings) (c.loop-field.invariant.2 ∙ at_drop_all (fold step (Some s)) fs n (omega (arith, t.1))))

use Rattle.std.proofs.Common.{◌∙◌, sym, ap, List, ℕ, Some}
use Rattle.std.proofs.lemmas.Iterator.Adapters.{option_map_id}
use Rattle.std.specs.Option.{option_map}
use Rattle.deck_reader.specs.declared.options.JobOption.TheVariants.{Steps, Lines, Library}
use Rattle.deck_reader.specs.Forms.{name_of, number_of, in_32_bits}
use Rattle.deck_reader.specs.Options.{row, option_of}
use Rattle.deck_reader.proofs.Settings.{counted_field}
use Rattle.deck_reader.proofs.options.Settings.with.Goals as goal

pub returns-in_err-once-in-Steps : goal.returns-in_err-once-in-Steps
returns-in_err-once-in-Steps c s is =
    let row_is = counted_field Steps c.args.self s c.args.field.now c.in_ok-word.word.now c.in_ok-word.value.now c.number_of.result is c.in_ok-word.ensures.parts
    (sym (c.named.ensures ∙ ap option_of c.stripped.ensures) ∙ c.in_ok-named.was ∙ ap Some c.in-Steps.is)
    (c.number_of.ensures ∙ ap (λ (t : List ℕ). option_map in_32_bits (number_of t)) c.stripped-value.ensures) in
    c.from_residual-in_err-once-in-Steps.ensures
    ∙ sym (row_is ∙ ap (option_map ((row Steps).with_value c.args.self)) (sym c.once.ensures ∙ c.in_err-once-in-Steps.was))

pub returns-in_ok-once-in-Steps : goal.returns-in_ok-once-in-Steps
returns-in_ok-once-in-Steps c s is =
    let row_is = counted_field Steps c.args.self s c.args.field.now c.in_ok-word.word.now c.in_ok-word.value.now c.number_of.result is c.in_ok-word.ensures.parts
    (sym (c.named.ensures ∙ ap option_of c.stripped.ensures) ∙ c.in_ok-named.was ∙ ap Some c.in-Steps.is)
    (c.number_of.ensures ∙ ap (λ (t : List ℕ). option_map in_32_bits (number_of t)) c.stripped-value.ensures) in
    sym (row_is ∙ ap (option_map ((row Steps).with_value c.args.self)) (sym c.once.ensures ∙ c.in_ok-once-in-Steps.was))

pub returns-in_err-once-in-Lines : goal.returns-in_err-once-in-Lines
returns-in_err-once-in-Lines c s is =
    let row_is = counted_field Lines c.args.self s c.args.field.now c.in_ok-word.word.now c.in_ok-word.value.now c.number_of-in-Lines.result is c.in_ok-word.ensures.parts
    (sym (c.named.ensures ∙ ap option_of c.stripped.ensures) ∙ c.in_ok-named.was ∙ ap Some c.in-Lines.is)
    (c.number_of-in-Lines.ensures ∙ ap (λ (t : List ℕ). option_map in_32_bits (number_of t)) c.stripped-value.ensures) in
    c.from_residual-in_err-once-in-Lines.ensures
    ∙ sym (row_is ∙ ap (option_map ((row Lines).with_value c.args.self)) (sym c.once-in-Lines.ensures ∙ c.in_err-once-in-Lines.was))

pub returns-in_ok-once-in-Lines : goal.returns-in_ok-once-in-Lines
returns-in_ok-once-in-Lines c s is =
    let row_is = counted_field Lines c.args.self s c.args.field.now c.in_ok-word.word.now c.in_ok-word.value.now c.number_of-in-Lines.result is c.in_ok-word.ensures.parts
    (sym (c.named.ensures ∙ ap option_of c.stripped.ensures) ∙ c.in_ok-named.was ∙ ap Some c.in-Lines.is)
    (c.number_of-in-Lines.ensures ∙ ap (λ (t : List ℕ). option_map in_32_bits (number_of t)) c.stripped-value.ensures) in
    sym (row_is ∙ ap (option_map ((row Lines).with_value c.args.self)) (sym c.once-in-Lines.ensures ∙ c.in_ok-once-in-Lines.was))

pub returns-in_err-once-in-Library : goal.returns-in_err-once-in-Library
returns-in_err-once-in-Library c s is =
    let row_is = counted_field Library c.args.self s c.args.field.now c.in_ok-word.word.now c.in_ok-word.value.now c.name_of.result is c.in_ok-word.ensures.parts
    (sym (c.named.ensures ∙ ap option_of c.stripped.ensures) ∙ c.in_ok-named.was ∙ ap Some c.in-Library.is)
    (c.name_of.ensures ∙ ap name_of c.stripped-value.ensures ∙ sym (option_map_id _)) in
    c.from_residual-in_err-once-in-Library.ensures
    ∙ sym (row_is ∙ ap (option_map ((row Library).with_value c.args.self)) (sym c.once-in-Library.ensures ∙ c.in_err-once-in-Library.was))

pub returns-in_ok-once-in-Library : goal.returns-in_ok-once-in-Library
returns-in_ok-once-in-Library c s is =
    let row_is = counted_field Library c.args.self s c.args.field.now c.in_ok-word.word.now c.in_ok-word.value.now c.name_of.result is c.in_ok-word.ensures.parts
    (sym (c.named.ensures ∙ ap option_of c.stripped.ensures) ∙ c.in_ok-named.was ∙ ap Some c.in-Library.is)
    (c.name_of.ensures ∙ ap name_of c.stripped-value.ensures ∙ sym (option_map_id _)) in
    sym (row_is ∙ ap (option_map ((row Library).with_value c.args.self)) (sym c.once-in-Library.ensures ∙ c.in_ok-once-in-Library.was))

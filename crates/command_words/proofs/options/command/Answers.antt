use Rattle.std.proofs.Common.{ap, ap₂, ◌≡◌, ◌∙◌, true}
use Rattle.std.proofs.lemmas.Result.{IfOk-weaker}
use Rattle.clap.specs.Words.{app_of, with_rule}
use Rattle.clap.specs.Simple.{app_of_fields, on_top}
use Rattle.command_words.specs.Command.{bare_app}
use Rattle.command_words.proofs.options.command.Goals as goal

pub returns : goal.returns
returns c =
    let one : app_of c.no_binary_name.result ≡ on_top (λ s. record s { no_binary_name = true }) (app_of c.new.result) = ap app_of_fields c.no_binary_name.ensures in
    let two : app_of c.disable_help_flag.result ≡ on_top (λ s. record s { disable_help_flag = true }) (app_of c.no_binary_name.result) = ap app_of_fields c.disable_help_flag.ensures in
    let three : app_of c.disable_version_flag.result ≡ on_top (λ s. record s { disable_version_flag = true }) (app_of c.disable_help_flag.result) = ap app_of_fields c.disable_version_flag.ensures in
    let bare : app_of c.disable_version_flag.result ≡ bare_app = three
    ∙ ap (on_top (λ s. record s { disable_version_flag = true })) (two
    ∙ ap (on_top (λ s. record s { disable_help_flag = true })) (one
    ∙ ap (on_top (λ s. record s { no_binary_name = true })) c.new.ensures.app)) in
    let first = c.in_ok-arg.ensures.shape c.option.ensures.global ∙ ap₂ with_rule bare c.option.ensures.rule in
    let second = c.in_ok-arg-2.ensures.shape c.option-2.ensures.global ∙ ap₂ with_rule first c.option-2.ensures.rule in
    let third = c.in_ok-arg-3.ensures.shape c.option-3.ensures.global ∙ ap₂ with_rule second c.option-3.ensures.rule in
    let fourth = c.in_ok-arg-4.ensures.shape c.option-4.ensures.global ∙ ap₂ with_rule third c.option-4.ensures.rule in
    let fifth = c.in_ok-arg-5.ensures.shape c.option-5.ensures.global ∙ ap₂ with_rule fourth c.option-5.ensures.rule in
    let sixth = c.in_ok-arg-6.ensures.shape c.flag.ensures.global ∙ ap₂ with_rule fifth c.flag.ensures.rule in
    IfOk-weaker c.arg-7.result _ _ (λ m h. h.shape c.flag-2.ensures.global ∙ ap₂ with_rule sixth c.flag-2.ensures.rule) c.arg-7.ensures

use Rattle.std.proofs.Common.{rules, ◌≡◌, ℕ, Some, List, map, sym, ap, ◌∙◌}
use Rattle.std.proofs.lemmas.Result.{IfOk-weaker}
use Rattle.algolw_typing.specs.Actuals.{list_row}
use Rattle.algolw_typing.specs.Meanings.{all_read}
use Rattle.algolw_typing.specs.Typing.{use_with_list}
use Rattle.algolw_typing.specs.Verdicts.{Verdict}
use Rattle.typing_rules.specs.MeaningView.{part, meaning, after}
use Rattle.declared_names.specs.KnownView.{entry_of}
use Rattle.typed_phrases.proofs.designators.known_with_list.Goals as goal

pub returns-in-Ok : goal.returns-in-Ok
returns-in-Ok c =
    let parts = map part c.args.parts.now in
    let row : Verdict = list_row c.args.place (meaning c.in-Some.meaning) c.args.known.place parts in
    let read : row ≡ all_read parts row = sym (ap (λ r. after r (λ _. row)) c.in-Ok.is) ∙ c.all_read.ensures row in
    let at : (x : List ℕ) → all_read parts row ≡ use_with_list c.args.place (Some (entry_of x c.args.known)) parts = λ x. search rules in
    IfOk-weaker c.list_row.result _ _ (λ v h x. h ∙ read ∙ at x) c.list_row.ensures

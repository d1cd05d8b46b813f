use Rattle.std.proofs.Common.{rules, ◌≡◌, ℕ, Some, List, map, ◌∙◌}
use Rattle.std.proofs.lemmas.Result.{IfOk-weaker}
use Rattle.algolw_typing.specs.Typing.{use_with_list}
use Rattle.typing_rules.specs.MeaningView.{part}
use Rattle.declared_names.specs.KnownView.{entry_of}
use Rattle.typed_phrases.specs.Fronts.{front_list}
use Rattle.typed_phrases.specs.FrontViews.{front_view}
use Rattle.typed_phrases.proofs.designators.Front.with_list.Goals as goal

pub returns-in-Name-default-Some : goal.returns-in-Name-default-Some
returns-in-Name-default-Some c =
    let parts = map part c.args.parts.now in
    let at : (x : List ℕ) → use_with_list c.in-Name-default-Some.name (Some (entry_of x c.in-Name-default-Some.known)) parts ≡ front_list c.args.place (front_view x c.args.self) parts = λ x. search rules in
    IfOk-weaker c.known_with_list.result _ _ (λ v h x. h x ∙ at x) c.known_with_list.ensures

use Rattle.std.proofs.Common.{◌≡◌, ℕ, List, Some, ap, refl, ◌∙◌}
use Rattle.night_merge.specs.declared.stop.Unread.TheVariants.{BadPlan}
use Rattle.night_merge.proofs.Plans.{fed_is, said_is_line, said_short}
use Rattle.night_merge.proofs.Results.{match_this}
use Rattle.night_merge.proofs.lines.PlanReader.next.Goals as goal

pub returns-in_err-text-clause-line : goal.returns-in_err-text-clause-line
returns-in_err-text-clause-line g c = λ line rest said e.
    match_this c.from_residual.result c.in_err-text.field-0.0 _ (λ unread. unread ≡ BadPlan → ⊥) c.from_residual.ensures.1
    (c.in_err-text.ensures.line _ rest (e ∙ ap (λ (t : List ℕ). Some t) (fed_is line rest)) (said_is_line line said) (said_short line said))

pub returns-clause-line : goal.returns-clause-line
returns-clause-line g c = λ line rest said e.
    let read = c.in_ok-text.ensures.line _ rest (e ∙ ap (λ (t : List ℕ). Some t) (fed_is line rest)) (said_is_line line said) (said_short line said) in
    let told = c.line_of.ensures line said (c.as_slice.ensures.value ∙ read.0) in
    rw (c.ok_or.ensures.value, told) (refl, read.1)

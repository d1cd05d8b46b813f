use Rattle.std.proofs.Common.{◌≡◌, refl, ◌∙◌, arith}
use Rattle.night_merge.specs.declared.stop.Unread.TheVariants.{BadPlan}
use Rattle.night_merge.proofs.Results.{match_this}
use Rattle.night_merge.proofs.Successions.{entries_ahead, entries_begin, entries_end, entries_few, entries_more, next_so}
use Rattle.night_merge.proofs.lines.PlanReader.entries.Goals as goal

pub lines-init : goal.lines-init
lines-init g c = (refl, λ entries line rest said is ends e. entries_begin entries line rest _ _ c.new-entries.ensures.items said e)

pub returns-in_err-line-clause-entries : goal.returns-in_err-line-clause-entries
returns-in_err-line-clause-entries g c = λ entries line rest said few is ends e.
    match_this c.from_residual.result c.in_err-line.field-0.0 _ (λ unread. unread ≡ BadPlan → ⊥) c.from_residual.ensures.1
    (entries_ahead entries line rest _ _ (c.in_err-line.field-0.0 ≡ BadPlan → ⊥) is c.in_err-line.ensures.line (c.lines.invariant.1 entries line rest said is ends e))

pub lines-preserved : goal.lines-preserved
lines-preserved g c = (
  c.in_ok-line.ensures.kept ∙ c.lines.invariant.0,
  λ entries line rest said is ends e.
      entries_more entries line rest _ _ _ _ c.in-Listed.entry is ends (next_so _ _ _ _ c.in-Listed.is c.in_ok-line.ensures.line) c.in_ok-push-in-Listed.ensures.items
      (c.lines.invariant.1 entries line rest said is ends e),
)

pub returns-in_default-clause-entries : goal.returns-in_default-clause-entries
returns-in_default-clause-entries g c = λ entries line rest said few is ends e.
    entries_end entries line rest _ _ _ _ is c.in_default.not-Listed c.in_ok-line.ensures.line (c.lines.invariant.1 entries line rest said is ends e)

pub returns-clause-entries : goal.returns-clause-entries
returns-clause-entries g c = λ entries line rest said few is ends e bad. let most = entries_few entries line rest _ _ (c.lines.invariant.1 entries line rest said is ends e) in omega (arith, most, few)

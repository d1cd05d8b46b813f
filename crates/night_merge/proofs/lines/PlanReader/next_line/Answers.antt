use Rattle.std.proofs.Common.{◌≡◌, refl, ◌∙◌, arith}
use Rattle.night_merge.specs.declared.stop.Unread.TheVariants.{NoMemory, BadPlan}
use Rattle.night_merge.proofs.Feeds.{pending_along, pending_begins, pending_short, pending_some, took_all, took_more, took_some}
use Rattle.night_merge.proofs.Results.{match_this}
use Rattle.night_merge.proofs.lines.PlanReader.next_line.Goals as goal

pub loop-self-init : goal.loop-self-init
loop-self-init g c = (refl, λ line rest h e. pending_begins line rest _ _ c.new-line.ensures.items e)

pub returns-in_err-fill-clause-line : goal.returns-in_err-fill-clause-line
returns-in_err-fill-clause-line g c = λ line rest e h short.
    match_this c.from_residual.result c.in_err-fill.field-0.0 _ (λ unread. unread ≡ BadPlan → ⊥) c.from_residual.ensures.1
    (pending_some line rest _ _ _ (c.loop-self.invariant.1 line rest h e) c.in_err-fill.ensures.ahead)

pub returns-in_err-take_front-clause-line : goal.returns-in_err-take_front-clause-line
returns-in_err-take_front-clause-line g c = λ line rest e h short.
    match_this c.from_residual-in_err-take_front.result NoMemory _ (λ unread. unread ≡ BadPlan → ⊥) c.from_residual-in_err-take_front.ensures.1 (λ bad. cc bad)

pub returns-then-branch-clause-line : goal.returns-then-branch-clause-line
returns-then-branch-clause-line g c = λ line rest e h short.
    took_all line rest _ _ _ _ _ c.in_ok-take_front.field-0 c.in_ok-take_front.ensures c.if-branch.true h
    (pending_along line rest _ _ _ c.in_ok-fill.ensures.ahead (c.loop-self.invariant.1 line rest h e))

pub loop-self-smaller : goal.loop-self-smaller
loop-self-smaller g c = let more = took_some c.loop-self.line.items c.take_front.new.line.items c.fill.new.self c.take_front.new.self c.in_ok-take_front.field-0 c.in_ok-take_front.ensures c.if-branch.false c.in_ok-fill.ensures.some in omega (arith, more)

pub loop-self-preserved : goal.loop-self-preserved
loop-self-preserved g c = (
  c.in_ok-fill.ensures.kept ∙ c.loop-self.invariant.0,
  λ line rest h e.
      took_more line rest _ _ _ _ _ c.in_ok-take_front.field-0 c.in_ok-take_front.ensures c.if-branch.false
      (pending_along line rest _ _ _ c.in_ok-fill.ensures.ahead (c.loop-self.invariant.1 line rest h e)),
)

pub returns-clause-line : goal.returns-clause-line
returns-clause-line g c = λ line rest e h short bad. let most = pending_short line rest _ _ (c.loop-self.invariant.1 line rest h e) in omega (arith, most)

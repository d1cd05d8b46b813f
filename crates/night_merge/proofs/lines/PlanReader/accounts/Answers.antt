use Rattle.std.proofs.Common.{◌≡◌, refl, ◌∙◌, arith}
use Rattle.night_merge.specs.declared.stop.Unread.TheVariants.{BadPlan}
use Rattle.night_merge.proofs.Results.{match_this}
use Rattle.night_merge.proofs.Successions.{accounts_ahead, accounts_begin, accounts_end, accounts_few, accounts_more, next_so}
use Rattle.night_merge.proofs.lines.PlanReader.accounts.Goals as goal

pub lines-init : goal.lines-init
lines-init g c = (refl, λ accounts line rest said is ends e. accounts_begin accounts line rest _ _ c.new-accounts.ensures.items said e)

pub returns-in_err-line-clause-accounts : goal.returns-in_err-line-clause-accounts
returns-in_err-line-clause-accounts g c = λ accounts line rest said few is ends e.
    match_this c.from_residual.result c.in_err-line.field-0.0 _ (λ unread. unread ≡ BadPlan → ⊥) c.from_residual.ensures.1
    (accounts_ahead accounts line rest _ _ (c.in_err-line.field-0.0 ≡ BadPlan → ⊥) is c.in_err-line.ensures.line (c.lines.invariant.1 accounts line rest said is ends e))

pub lines-preserved : goal.lines-preserved
lines-preserved g c = (
  c.in_ok-line.ensures.kept ∙ c.lines.invariant.0,
  λ accounts line rest said is ends e.
      accounts_more accounts line rest _ _ _ _ c.in-Opened.account is ends (next_so _ _ _ _ c.in-Opened.is c.in_ok-line.ensures.line) c.in_ok-push-in-Opened.ensures.items
      (c.lines.invariant.1 accounts line rest said is ends e),
)

pub returns-in_default-clause-accounts : goal.returns-in_default-clause-accounts
returns-in_default-clause-accounts g c = λ accounts line rest said few is ends e.
    accounts_end accounts line rest _ _ _ _ is c.in_default.not-Opened c.in_ok-line.ensures.line (c.lines.invariant.1 accounts line rest said is ends e)

pub returns-clause-accounts : goal.returns-clause-accounts
returns-clause-accounts g c = λ accounts line rest said few is ends e bad. let most = accounts_few accounts line rest _ _ (c.lines.invariant.1 accounts line rest said is ends e) in omega (arith, most, few)

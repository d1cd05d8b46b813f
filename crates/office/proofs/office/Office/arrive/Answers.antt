use Rattle.std.proofs.Common.{◌≡◌, ◌+◌, ◌<◌, length, ◌∙◌, ap, subst, arith}
use Rattle.std.proofs.Common.{refl}
use Rattle.crossbeam_queue.specs.Passes.{view}
use Rattle.deck_reader.specs.JobView.{JobView}
use Rattle.batch_core.specs.Claims.{claim_of_job}
use Rattle.batch_core.specs.declared.event.Event.TheVariants.{Arrive}
use Rattle.office.specs.Arrivals.{IsBelow}
use Rattle.office.proofs.Offices.{fitting, kept_arrived, kept_same, same_office}
use Rattle.office.proofs.Boards.{lacks_newest, shows_on, shows_same}
use Rattle.office.proofs.office.Office.arrive.Goals as goal

pub post_newest-requires : goal.post_newest-requires
post_newest-requires g c = lacks_newest c.self.inside.register _ _ (Arrive (claim_of_job c.args.job.value)) c.self.inside.posting c.in-Ok.ensures.arrived refl refl c.self.invariant.1.posted

pub invariant_of-self : goal.invariant_of-self
invariant_of-self g c =
    let s = c.self.inside in
    let job : JobView = c.args.job.value in
    let number : job.number ≡ length s.register.jobs + 1 =
    let named : c.behind-job.inside.number ≡ job.number = ap (λ (j : JobView). j.number) (c.behind-job.view_is ∙ c.deref.ensures) in
    omega (arith, named, c.from.ensures, c.if-from-next.false, c.arrived.ensures.value) in
    let account : c.behind-job-else-from-next.inside.account ≡ job.account = ap (λ (j : JobView). j.account) (c.behind-job-else-from-next.view_is ∙ c.deref-else-from-next.ensures) in
    let below : IsBelow c.accounts-accounts.result job.account = subst (IsBelow c.accounts-accounts.result) account (c.is_there.ensures.0 c.if-not-is_there.false) in
    let few : length s.register.jobs < 4294967295 = omega (arith, number, c.arrived.ensures.value, c.arrived.ensures.few) in
    let may = fitting s.register job c.accounts-accounts.result c.self.invariant.0.stands.register c.accounts-accounts.ensures below few in (
      kept_same _ _ _ _ (same_office _ _ _ _ _ _ _ c.in-Ok.ensures.arrived refl refl refl refl refl) refl (kept_arrived _ (view s.put.pass).put job c.self.invariant.0 may number),
      shows_on c.self.invariant.1 c.post_newest.ensures.there c.post_newest.ensures.posted,
    )

pub invariant_of-self-in-Err : goal.invariant_of-self-in-Err
invariant_of-self-in-Err g c = (
  kept_same _ _ _ _ (same_office _ _ _ _ _ _ _ c.in-Err.ensures.unchanged refl refl refl refl refl) refl c.self.invariant.0,
  shows_same c.in-Err.ensures.unchanged c.self.invariant.1,
)

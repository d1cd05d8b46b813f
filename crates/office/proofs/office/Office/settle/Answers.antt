use Rattle.std.proofs.Common.{◌∙◌, refl, subst}
use Rattle.crossbeam_queue.specs.Passes.{view}
use Rattle.deck_reader.specs.JobView.{JobView}
use Rattle.account_book.specs.Charges.{charge}
use Rattle.office.specs.Standings.{IsRunning}
use Rattle.batch_core.specs.declared.event.Event.TheVariants.{End}
use Rattle.office.proofs.Offices.{kept_ended, kept_same, same_office}
use Rattle.office.proofs.Boards.{lacks_newest, shows_on}
use Rattle.office.proofs.office.Office.settle.Goals as goal

pub post_newest-requires : goal.post_newest-requires
post_newest-requires g c = lacks_newest c.self.inside.register _ _ (End c.number-number.result (charge c.args.ended.counts)) c.self.inside.posting c.end.ensures.ended refl refl c.self.invariant.1.posted

pub invariant_of-self : goal.invariant_of-self
invariant_of-self g c =
    let s = c.self.inside in
    let number = c.number-number.result in
    let amount = c.amount-amount.result in
    let running = subst (λ (job : JobView). IsRunning s.register number amount job) (c.deref.ensures ∙ c.job.ensures) (c.is_running.ensures.0 c.if-not-is_running.false) in (
      kept_same _ _ _ _ (same_office _ _ _ _ _ _ _ c.end.ensures.ended refl refl c.book.ensures.total refl refl) refl
          (kept_ended _ (view s.put.pass).put number amount c.args.ended c.self.invariant.0 running c.end.ensures.means),
      shows_on c.self.invariant.1 c.post_newest.ensures.there c.post_newest.ensures.posted,
    )

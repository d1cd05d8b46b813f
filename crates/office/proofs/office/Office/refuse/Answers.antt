use Rattle.std.proofs.Common.{◌+◌, refl, subst, sym}
use Rattle.crossbeam_queue.specs.Passes.{view}
use Rattle.batch_core.specs.declared.event.Event.TheVariants.{Refuse}
use Rattle.batch_core.specs.Events.{MayRefuse}
use Rattle.office.specs.OfficeView.{OfficeView}
use Rattle.office.proofs.Offices.{kept_refused, kept_same, same_office}
use Rattle.office.proofs.Boards.{lacks_newest, shows_on}
use Rattle.office.proofs.office.Office.refuse.Goals as goal

pub post_newest-requires : goal.post_newest-requires
post_newest-requires g c = lacks_newest c.self.inside.register _ _ (Refuse (c.self.inside.register.core.decided + 1)) c.self.inside.posting c.refuse.ensures refl refl c.self.invariant.1.posted

pub invariant_of-self : goal.invariant_of-self
invariant_of-self g c =
    let may = subst (λ (o : OfficeView). MayRefuse o.register.core) (sym c.self.view_is) c.requires in (
      kept_same _ _ _ _ (same_office _ _ _ _ _ _ _ c.refuse.ensures refl refl refl refl refl) refl (kept_refused _ (view c.self.inside.put.pass).put c.self.invariant.0 may),
      shows_on c.self.invariant.1 c.post_newest.ensures.there c.post_newest.ensures.posted,
    )

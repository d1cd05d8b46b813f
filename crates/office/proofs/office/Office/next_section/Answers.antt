use Rattle.std.proofs.Common.{◌+◌, refl}
use Rattle.crossbeam_queue.specs.Passes.{view}
use Rattle.batch_core.specs.declared.event.Event.TheVariants.{Print}
use Rattle.office.proofs.Offices.{kept_printed, kept_same, same_office}
use Rattle.office.proofs.Boards.{lacks_newest, shows_on, shows_same}
use Rattle.office.proofs.office.Office.next_section.Goals as goal

pub post_newest-requires : goal.post_newest-requires
post_newest-requires g c = lacks_newest c.self.inside.register _ _ (Print (c.self.inside.register.core.printed + 1)) c.self.inside.posting c.in_ok-brought.ensures.printed refl refl c.self.invariant.1.posted

pub invariant_of-self : goal.invariant_of-self
invariant_of-self g c = (
  kept_same _ _ _ _ (same_office _ _ _ _ _ _ _ c.in_err-brought.ensures.unchanged refl refl refl refl refl) refl c.self.invariant.0,
  shows_same c.in_err-brought.ensures.unchanged c.self.invariant.1,
)

pub invariant_of-self-2 : goal.invariant_of-self-2
invariant_of-self-2 g c = (
  kept_same _ _ _ _ (same_office _ _ _ _ _ _ _ c.in_ok-brought.ensures.printed refl refl refl refl refl) refl
      (kept_printed _ (view c.self.inside.put.pass).put c.self.invariant.0 (c.in_ok-brought.ensures.may.0 refl)),
  shows_on c.self.invariant.1 c.post_newest.ensures.there c.post_newest.ensures.posted,
)

use Rattle.std.proofs.Common.{◌<◌, ◌^◌, ◌++◌, ◌∷◌, [], List, ◌∙◌, ◌+◌, refl, ap, sym, subst, arith}
use Rattle.std.proofs.lemmas.List.{map_push}
use Rattle.std.proofs.lemmas.List.Sums.{sum_by_push}
use Rattle.crossbeam_queue.specs.Passes.{view}
use Rattle.job_queue.specs.declared.ticket.Ticket.{Ticket}
use Rattle.job_queue.specs.declared.rule.PassView.{PassView}
use Rattle.job_queue.specs.Rule.{amount_of}
use Rattle.batch_core.specs.declared.event.Event.TheVariants.{Accept}
use Rattle.batch_core.specs.Events.{MayAccept}
use Rattle.office.specs.OfficeView.{OfficeView, next_ticket}
use Rattle.office.specs.Tickets.{Slip, slip, slips}
use Rattle.office.proofs.Offices.{adds_up, kept_accepted, kept_same, same_office}
use Rattle.office.proofs.Boards.{lacks_newest, shows_on}
use Rattle.office.proofs.office.Office.accept.Goals as goal

pub accept-requires-clause-fits : goal.accept-requires-clause-fits
accept-requires-clause-fits g c =
    let old = (view c.self.inside.put.pass).put in
    let put = ap (λ (v : PassView). amount_of v.put) c.in-Ok.ensures.put in
    let more = sum_by_push (λ (t : Ticket). t.amount) old c.args.ticket in
    let sums = adds_up _ old refl c.self.invariant.0.stands in
    omega (arith, put, more, sums, c.in-Ok.ensures.amounts, c.amount-reserve.ensures)

pub post_newest-requires : goal.post_newest-requires
post_newest-requires g c = lacks_newest c.self.inside.register _ _ (Accept (c.self.inside.register.core.decided + 1)) c.self.inside.posting c.accept.ensures refl refl c.self.invariant.1.posted

pub invariant_of-self : goal.invariant_of-self
invariant_of-self g c =
    let old = (view c.self.inside.put.pass).put in
    let ticket = c.args.ticket in
    let put = ap (λ (v : PassView). v.put) c.in-Ok.ensures.put in
    let may = subst (λ (o : OfficeView). MayAccept o.register.core) (sym c.self.view_is) c.requires.may in
    let next = c.requires.ticket ∙ ap (λ (o : OfficeView). next_ticket o.register) (sym c.self.view_is) in
    let small = subst (λ (tickets : List Ticket). amount_of tickets < 2 ^ 62) put c.in-Ok.ensures.amounts in (
      kept_same _ _ _ _
          (same_office _ _ _ _ _ _ _ c.accept.ensures (ap slips put ∙ map_push (λ (t : Ticket). slip t.number t.amount) old ticket ∙ ap (λ (x : Slip). slips old ++ x ∷ []) next)
          (ap (λ (v : PassView). v.full) c.in-Ok.ensures.put) refl refl refl)
          put (kept_accepted _ old ticket c.self.invariant.0 may next small),
      shows_on c.self.invariant.1 c.post_newest.ensures.there c.post_newest.ensures.posted,
    )

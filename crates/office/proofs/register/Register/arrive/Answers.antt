use Rattle.std.proofs.Common.{◌≡◌, ◌+◌, ◌<◌, ◌++◌, ◌∷◌, [], List, Option, None, Global, length, map, ◌∙◌, ap, sym, subst, refl, arith}
use Rattle.std.specs.declared.sync.Arc.{Arc}
use Rattle.std.proofs.lemmas.List.{length-map, map_push}
use Rattle.deck_reader.specs.declared.batch.Job.{Job}
use Rattle.algolw_meaning.specs.EndedView.{EndedView}
use Rattle.batch_core.specs.declared.event.Event.{Event}
use Rattle.batch_core.specs.declared.event.Event.TheVariants.{Arrive}
use Rattle.batch_core.specs.declared.job.Claim.{Claim}
use Rattle.batch_core.specs.Events.{IsThere, step}
use Rattle.batch_core.specs.Claims.{claim_of_job}
use Rattle.office.specs.Register.{RegisterView}
use Rattle.office.proofs.Room.{may_arrive, rebuilt, registered_arrive, room_before}
use Rattle.office.proofs.register.Register.arrive.Goals as goal

pub push_reserved-requires : goal.push_reserved-requires
push_reserved-requires c =
    let s = c.self.inside in
    let used = room_before _ _ _ c.self.invariant in
    let long = ap (λ (events : List Event). length events) c.make_room.ensures.journal in
    let many = length-map s.jobs.items (λ (j : Arc Job Global). j.value) in
    omega (arith, used, long, many, c.in_ok-make_room.ensures.events)

pub invariant_of-self-2 : goal.invariant_of-self-2
invariant_of-self-2 c =
    let s = c.self.inside in
    let job = c.args.job in
    let value = λ (j : Arc Job Global). j.value in
    let many = length-map s.jobs.items value in
    let claim : c.claim_of-claim.result ≡ claim_of_job job.value = c.claim_of-claim.ensures ∙ ap claim_of_job c.deref.ensures in
    let there = subst (λ (r : RegisterView). IsThere r.core.openings job.value.account) (sym c.self.view_is) c.requires.account in
    let few = subst (λ (r : RegisterView). length r.jobs < 4294967295) (sym c.self.view_is) c.requires.few in
    let number = subst (λ (r : RegisterView). job.value.number ≡ length r.jobs + 1) (sym c.self.view_is) c.requires.number in
    let may = may_arrive _ job.value c.self.invariant.stands there few in
    rebuilt _ _ _ _ _ _ _ _ _
    (c.in_ok-arrive.ensures.arrived ∙ ap (λ (x : Claim). step s.core (Arrive x)) claim)
    (c.push_reserved.ensures.items ∙ ap (λ (events : List Event). events ++ Arrive c.claim_of-claim.result ∷ []) c.make_room.ensures.journal ∙ ap (λ (x : Claim). s.journal.items ++ Arrive x ∷ []) claim)
    (ap (map value) (c.push_reserved-2.ensures.items ∙ ap (λ (jobs : List (Arc Job Global)). jobs ++ job ∷ []) c.make_room.ensures.jobs) ∙ map_push value s.jobs.items job)
    (c.push_reserved-3.ensures.items ∙ ap (λ (results : List (Option EndedView)). results ++ None ∷ []) c.make_room.ensures.results)
    refl c.push_reserved.ensures.capacity
    (registered_arrive _ job.value _ _ _ c.self.invariant may number (omega (arith, many, c.in_ok-make_room.ensures.events)))

use Rattle.std.proofs.Common.{◌≡◌, ◌+◌, ◌++◌, ◌∷◌, [], ℕ, None, ◌∙◌, ap, set, refl, arith}
use Rattle.batch_core.specs.declared.event.Event.TheVariants.{Print}
use Rattle.batch_core.specs.Events.{MayPrint, step}
use Rattle.office.proofs.Printing.{brings_told}
use Rattle.office.proofs.Room.{rebuilt, registered_print, room_to_print}
use Rattle.office.proofs.register.Register.print.Goals as goal

pub push_reserved-requires : goal.push_reserved-requires
push_reserved-requires c =
    let may : MayPrint c.self.inside.core = c.may_print.ensures.0 c.if-not-may_print.false in
    let room = room_to_print _ _ _ c.self.invariant may in
    omega (arith, room)

pub invariant_of-self : goal.invariant_of-self
invariant_of-self c =
    let s = c.self.inside in
    let may : MayPrint s.core = c.may_print.ensures.0 c.if-not-may_print.false in
    let place = c.printed-place.ensures in
    let at : c.printed-place.result + 1 ≡ s.core.printed + 1 = ap (λ (n : ℕ). n + 1) place in
    rebuilt _ _ _ _ _ _ _ _ _ (c.step.ensures ∙ ap (λ (n : ℕ). step s.core (Print n)) at) (c.push_reserved.ensures.items ∙ ap (λ (n : ℕ). s.journal.items ++ Print n ∷ []) at)
    refl (c.hand_out.ensures.rest ∙ ap (λ (n : ℕ). set s.results.items n None) place) refl c.push_reserved.ensures.capacity (registered_print _ _ _ c.self.invariant may)

pub returns-clause-standing : goal.returns-clause-standing
returns-clause-standing c =
    let may : MayPrint c.self.inside.core = c.may_print.ensures.0 c.if-not-may_print.false in
    let told = brings_told _ c.args.self.now c.brought_of.result c.printed-place.result _ c.self.invariant.stands may c.self.view_is c.brought_of.ensures c.hand_out.ensures.result c.printed-place.ensures in
    told.standing

pub returns-clause-result : goal.returns-clause-result
returns-clause-result c =
    let may : MayPrint c.self.inside.core = c.may_print.ensures.0 c.if-not-may_print.false in
    let told = brings_told _ c.args.self.now c.brought_of.result c.printed-place.result _ c.self.invariant.stands may c.self.view_is c.brought_of.ensures c.hand_out.ensures.result c.printed-place.ensures in
    told.result

use Rattle.std.proofs.Common.{◌≡◌, ◌+◌, ◌++◌, ◌∷◌, [], ℕ, ◌∙◌, ap, sym, subst, refl, arith}
use Rattle.batch_core.specs.declared.event.Event.TheVariants.{Refuse}
use Rattle.batch_core.specs.Events.{MayRefuse, step}
use Rattle.office.specs.Register.{RegisterView}
use Rattle.office.proofs.Room.{rebuilt, registered_refuse, room_to_decide}
use Rattle.office.proofs.register.Register.refuse.Goals as goal

pub push_reserved-requires : goal.push_reserved-requires
push_reserved-requires c =
    let may : MayRefuse c.self.inside.core = subst (λ (r : RegisterView). MayRefuse r.core) (sym c.self.view_is) c.requires in
    let room = room_to_decide _ _ _ c.self.invariant may.0 in
    omega (arith, room)

pub invariant_of-self : goal.invariant_of-self
invariant_of-self c =
    let s = c.self.inside in
    let may : MayRefuse s.core = subst (λ (r : RegisterView). MayRefuse r.core) (sym c.self.view_is) c.requires in
    let at : c.decided.result + 1 ≡ s.core.decided + 1 = ap (λ (n : ℕ). n + 1) c.decided.ensures in
    rebuilt _ _ _ _ _ _ _ _ _ (c.step.ensures ∙ ap (λ (n : ℕ). step s.core (Refuse n)) at) (c.push_reserved.ensures.items ∙ ap (λ (n : ℕ). s.journal.items ++ Refuse n ∷ []) at)
    refl refl refl c.push_reserved.ensures.capacity (registered_refuse _ _ _ c.self.invariant may)

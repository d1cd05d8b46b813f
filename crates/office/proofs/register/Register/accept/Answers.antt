use Rattle.std.proofs.Common.{◌≡◌, ◌+◌, ◌++◌, ◌∷◌, [], ℕ, ◌∙◌, ap, sym, subst, refl, arith}
use Rattle.batch_core.specs.declared.event.Event.TheVariants.{Accept}
use Rattle.batch_core.specs.Events.{MayAccept, step}
use Rattle.office.specs.Register.{RegisterView, next_reserve}
use Rattle.office.proofs.Room.{few_running, rebuilt, registered_accept, room_to_decide}
use Rattle.office.proofs.register.Register.accept.Goals as goal

pub push_reserved-requires : goal.push_reserved-requires
push_reserved-requires c =
    let may : MayAccept c.self.inside.core = subst (λ (r : RegisterView). MayAccept r.core) (sym c.self.view_is) c.requires.may in
    let room = room_to_decide _ _ _ c.self.invariant may.0 in
    omega (arith, room)

pub overflow_add-self-2 : goal.overflow_add-self-2
overflow_add-self-2 c = let few = few_running _ _ _ c.self.invariant in omega (arith, few)

pub invariant_of-self : goal.invariant_of-self
invariant_of-self c =
    let s = c.self.inside in
    let may : MayAccept s.core = subst (λ (r : RegisterView). MayAccept r.core) (sym c.self.view_is) c.requires.may in
    let at : c.decided.result + 1 ≡ s.core.decided + 1 = ap (λ (n : ℕ). n + 1) c.decided.ensures in
    let reserve = c.requires.reserve ∙ ap next_reserve (sym c.self.view_is) in
    rebuilt _ _ _ _ _ _ _ _ _ (c.step.ensures ∙ ap (λ (n : ℕ). step s.core (Accept n)) at) (c.push_reserved.ensures.items ∙ ap (λ (n : ℕ). s.journal.items ++ Accept n ∷ []) at)
    refl refl (ap (λ (n : ℕ). s.reserved + n) reserve) c.push_reserved.ensures.capacity (registered_accept _ _ _ c.self.invariant may)

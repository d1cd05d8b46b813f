use Rattle.std.proofs.Common.{◌≡◌, ◌-◌, ◌++◌, ◌∷◌, [], ℕ, ◌∙◌, ap, sym, subst, refl, arith}
use Rattle.account_book.specs.Charges.{charge}
use Rattle.batch_core.specs.declared.event.Event.TheVariants.{End}
use Rattle.batch_core.specs.Events.{step}
use Rattle.office.specs.Register.{RegisterView, finished}
use Rattle.office.specs.Standings.{IsRunning}
use Rattle.office.proofs.Room.{rebuilt, registered_finish, reserve_is_there, room_to_end, same_register}
use Rattle.office.proofs.Running.{amount_at, may_end}
use Rattle.office.proofs.Stands.{as_many}
use Rattle.office.proofs.register.Register.end.Goals as goal

pub step-requires-clause-allowed : goal.step-requires-clause-allowed
step-requires-clause-allowed c =
    let is = subst (λ (r : RegisterView). IsRunning r c.args.number c.args.amount c.args.ended.job) (sym c.self.view_is) c.requires in
    may_end _ c.args.number c.args.amount c.charge_of.result c.args.ended.job c.counts.result c.self.invariant.stands is c.counts.ensures.means c.charge_of.ensures

pub push_reserved-requires : goal.push_reserved-requires
push_reserved-requires c =
    let is = subst (λ (r : RegisterView). IsRunning r c.args.number c.args.amount c.args.ended.job) (sym c.self.view_is) c.requires in
    let may = may_end _ c.args.number c.args.amount c.charge_of.result c.args.ended.job c.counts.result c.self.invariant.stands is c.counts.ensures.means c.charge_of.ensures in
    let room = room_to_end _ _ _ _ _ c.self.invariant may.1 in
    omega (arith, room.0)

pub index_mut-requires : goal.index_mut-requires
index_mut-requires c =
    let is = subst (λ (r : RegisterView). IsRunning r c.args.number c.args.amount c.args.ended.job) (sym c.self.view_is) c.requires in
    let may = may_end _ c.args.number c.args.amount c.charge_of.result c.args.ended.job c.counts.result c.self.invariant.stands is c.counts.ensures.means c.charge_of.ensures in
    let many = as_many _ c.self.invariant.stands in
    omega (arith, may.1.0, many, c.self.invariant.stands.each)

pub overflow_sub-self : goal.overflow_sub-self
overflow_sub-self c =
    let is = subst (λ (r : RegisterView). IsRunning r c.args.number c.args.amount c.args.ended.job) (sym c.self.view_is) c.requires in
    let may = may_end _ c.args.number c.args.amount c.charge_of.result c.args.ended.job c.counts.result c.self.invariant.stands is c.counts.ensures.means c.charge_of.ensures in
    let there = reserve_is_there _ _ _ _ _ c.self.invariant may.1 in
    let amount = amount_at _ c.args.number c.args.amount c.args.ended.job c.self.invariant.stands is in
    omega (arith, there, amount)

pub overflow_sub-self-2 : goal.overflow_sub-self-2
overflow_sub-self-2 c =
    let is = subst (λ (r : RegisterView). IsRunning r c.args.number c.args.amount c.args.ended.job) (sym c.self.view_is) c.requires in
    let may = may_end _ c.args.number c.args.amount c.charge_of.result c.args.ended.job c.counts.result c.self.invariant.stands is c.counts.ensures.means c.charge_of.ensures in
    let room = room_to_end _ _ _ _ _ c.self.invariant may.1 in
    omega (arith, room.1)

pub invariant_of-self : goal.invariant_of-self
invariant_of-self c =
    let s = c.self.inside in
    let number = c.args.number in
    let ended = c.args.ended in
    let is = subst (λ (r : RegisterView). IsRunning r c.args.number c.args.amount c.args.ended.job) (sym c.self.view_is) c.requires in
    let costs : c.charge_of.result ≡ charge ended.counts = c.charge_of.ensures ∙ ap charge c.counts.ensures.counts in
    let means = sym c.counts.ensures.counts ∙ c.counts.ensures.means in
    let may = may_end _ number c.args.amount (charge ended.counts) ended.job ended.counts c.self.invariant.stands is means refl in
    rebuilt _ _ _ _ _ _ _ _ _ (c.step.ensures ∙ ap (λ (n : ℕ). step s.core (End number n)) costs) (c.push_reserved.ensures.items ∙ ap (λ (n : ℕ). s.journal.items ++ End number n ∷ []) costs)
    refl refl (ap (λ (n : ℕ). s.reserved - n) (amount_at _ number c.args.amount ended.job c.self.invariant.stands is)) c.push_reserved.ensures.capacity
    (registered_finish _ _ _ number ended.job ended c.self.invariant may is.kept refl means)

pub returns-clause-ended : goal.returns-clause-ended
returns-clause-ended c =
    let s = c.self.inside in
    let number = c.args.number in
    let ended = c.args.ended in
    let is = subst (λ (r : RegisterView). IsRunning r c.args.number c.args.amount c.args.ended.job) (sym c.self.view_is) c.requires in
    let costs : c.charge_of.result ≡ charge ended.counts = c.charge_of.ensures ∙ ap charge c.counts.ensures.counts in
    same_register (finished _ number ended) _ _ _ _ _ (c.step.ensures ∙ ap (λ (n : ℕ). step s.core (End number n)) costs) (c.push_reserved.ensures.items ∙ ap (λ (n : ℕ). s.journal.items ++ End number n ∷ []) costs)
    refl refl (ap (λ (n : ℕ). s.reserved - n) (amount_at _ number c.args.amount ended.job c.self.invariant.stands is))
    ∙ ap (λ (r : RegisterView). finished r number ended) c.self.view_is

pub returns-clause-means : goal.returns-clause-means
returns-clause-means c = sym c.counts.ensures.counts ∙ c.counts.ensures.means

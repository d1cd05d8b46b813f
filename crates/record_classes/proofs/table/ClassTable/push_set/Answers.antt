use Rattle.std.proofs.Common.{◌≡◌, List, length, sym, subst, rules}
use Rattle.value_ops.specs.declared.values.ClassId.{ClassId}
use Rattle.record_classes.specs.Held.{Numbers}
use Rattle.record_classes.proofs.KnownNumbers.{numbers-push, numbers-again, where_ok}
use Rattle.record_classes.proofs.table.ClassTable.push_set.Goals as goal

pub invariant_of-self-in-Some : goal.invariant_of-self-in-Some
invariant_of-self-in-Some c =
    subst (λ (sets : List (List ClassId)). Numbers sets c.self.inside.numbers) (sym c.in_ok-push.ensures.items)
    (numbers-again c.self.inside.sets.items c.args.set c.in_ok-members.members c.in-Some._number.now c.self.inside.numbers c.self.invariant c.in_ok-members.ensures.rising c.in_ok-members.ensures.same c.in-Some.ensures.value)

pub invariant_of-self-else-is_err : goal.invariant_of-self-else-is_err
invariant_of-self-else-is_err c =
    let updates = where_ok c.insert.result _ c.if-is_err.ensures.value c.insert.ensures.updates in
    let next : c.in-Ok.number ≡ length c.self.inside.sets.items = search rules in
    subst (λ (sets : List (List ClassId)). Numbers sets c.insert.new.self) (sym c.in_ok-push.ensures.items)
    (numbers-push c.self.inside.sets.items c.args.set c.in_ok-members.members (record { 0 = c.in-Ok.number }) c.self.inside.numbers c.insert.new.self c.self.invariant
    c.in_ok-members.ensures.rising c.in_ok-members.ensures.same (sym c.in_default-get.ensures.value) next updates.0)

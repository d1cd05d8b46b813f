use Rattle.std.proofs.Common.{◌≡◌, [], ◌∷◌, ◌++◌, List, length, sym, ap, subst, ◌∙◌, rules}
use Rattle.value_ops.specs.declared.values.ClassId.{ClassId}
use Rattle.record_classes.specs.Classes.{Classes}
use Rattle.record_classes.specs.Held.{Numbers}
use Rattle.record_classes.proofs.KnownNumbers.{numbers-push, found_number, next_number, where_ok}
use Rattle.record_classes.proofs.table.ClassTable.add_set.Goals as goal

pub returns-in-Some-clause-number : goal.returns-in-Some-clause-number
returns-in-Some-clause-number c =
    let t : Classes = record { classes = c.self.inside.classes.items; sets = c.self.inside.sets.items } in
    let same = rw c.in_ok-set.ensures at c.in_ok-members.ensures.same in
    rw (← c.self.view_is) (found_number t c.args.classes.items c.in_ok-members.members c.self.inside.numbers c.in-Some.number.now c.self.invariant c.in_ok-members.ensures.rising same c.in-Some.ensures.value).0

pub returns-in-Some-clause-added : goal.returns-in-Some-clause-added
returns-in-Some-clause-added c =
    let t : Classes = record { classes = c.self.inside.classes.items; sets = c.self.inside.sets.items } in
    let same = rw c.in_ok-set.ensures at c.in_ok-members.ensures.same in
    rw (← c.self.view_is) (found_number t c.args.classes.items c.in_ok-members.members c.self.inside.numbers c.in-Some.number.now c.self.invariant c.in_ok-members.ensures.rising same c.in-Some.ensures.value).1

pub invariant_of-self-else-is_err : goal.invariant_of-self-else-is_err
invariant_of-self-else-is_err c =
    let updates = where_ok c.insert.result _ c.if-is_err.ensures.value c.insert.ensures.updates in
    let next : c.len.result ≡ length c.self.inside.sets.items = search rules in
    subst (λ (sets : List (List ClassId)). Numbers sets c.insert.new.self) (sym c.in_ok-push.ensures.items)
    (numbers-push c.self.inside.sets.items c.in_ok-set.set c.in_ok-members.members (record { 0 = c.len.result }) c.self.inside.numbers c.insert.new.self c.self.invariant
    c.in_ok-members.ensures.rising c.in_ok-members.ensures.same (sym c.in_default.ensures.value) next updates.0)

pub returns-clause-number : goal.returns-clause-number
returns-clause-number c =
    let t : Classes = record { classes = c.self.inside.classes.items; sets = c.self.inside.sets.items } in
    let same = rw c.in_ok-set.ensures at c.in_ok-members.ensures.same in
    let next : c.len.result ≡ length c.self.inside.sets.items = search rules in
    rw (← c.self.view_is) (next ∙ (next_number t c.args.classes.items c.in_ok-members.members c.self.inside.numbers c.self.invariant c.in_ok-members.ensures.rising same (sym c.in_default.ensures.value)).0)

pub returns-clause-added : goal.returns-clause-added
returns-clause-added c =
    let t : Classes = record { classes = c.self.inside.classes.items; sets = c.self.inside.sets.items } in
    let same = rw c.in_ok-set.ensures at c.in_ok-members.ensures.same in
    let more : c.push.new.self.items ≡ c.self.inside.sets.items ++ c.args.classes.items ∷ [] = c.in_ok-push.ensures.items ∙ ap (λ (set : List ClassId). c.self.inside.sets.items ++ set ∷ []) c.in_ok-set.ensures in
    rw (← c.self.view_is) ((next_number t c.args.classes.items c.in_ok-members.members c.self.inside.numbers c.self.invariant c.in_ok-members.ensures.rising same (sym c.in_default.ensures.value)).1 c.push.new.self.items more)

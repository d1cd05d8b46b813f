use Rattle.std.proofs.Common.{◌≡◌, List, sym, subst, ap, ◌∙◌, rules}
use Rattle.value_ops.specs.declared.values.ClassId.{ClassId}
use Rattle.record_classes.specs.Classes.{has}
use Rattle.record_classes.specs.Held.{Members}
use Rattle.record_classes.proofs.Membership.{searched_has}
use Rattle.record_classes.proofs.class_set.ClassSet.has.Goals as goal

pub returns : goal.returns
returns c =
    let classes = c.self.inside.classes.items in
    let members = c.deref.result.now in
    let is : members ≡ c.self.inside.members.items = search rules in
    let held = subst (Members classes) (sym is) c.self.invariant in
    c.is_ok.ensures.value
    ∙ searched_has classes members c.args.class c.binary_search.result held c.binary_search.ensures.bound c.binary_search.ensures.position
    ∙ ap (λ (set : List ClassId). has set c.args.class) c.self.view_is

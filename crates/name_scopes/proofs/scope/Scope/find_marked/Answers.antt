use Rattle.std.proofs.Common.{false, get_or, sym, ap, ◌∙◌, subst, List}
use Rattle.algolw_tree.specs.Tree.{Placed}
use Rattle.name_scopes.specs.Marks.{Marked}
use Rattle.name_scopes.proofs.scope.Scope.find_marked.Goals as goal

pub returns-else-self-mark : goal.returns-else-self-mark
returns-else-self-mark c =
    let marked = subst (λ (xs : List Placed). Marked xs c.self.inside.marks) c.self.view_is c.self.invariant.1 in
    sym (marked.unset c.args.name.now (ap (λ i. get_or c.self.inside.marks i false) (sym c.requires) ∙ c.if-self-mark.false))

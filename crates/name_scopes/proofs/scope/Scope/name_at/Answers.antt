use Rattle.std.proofs.Common.{◌<◌, length, get_or, sym, ap, subst, ◌∙◌, ℕ, List, rules}
use Rattle.algolw_tree.specs.Tree.{Placed}
use Rattle.name_scopes.specs.Firsts.{lent}
use Rattle.name_scopes.proofs.Firsts.{lent-at, lent-length}
use Rattle.name_scopes.proofs.scope.Scope.name_at.Goals as goal

pub index-requires : goal.index-requires
index-requires c =
    let w : c.args.position < length (lent c.self.inside.names.items) = subst (λ (xs : List Placed). c.args.position < length xs) (sym c.self.view_is) c.requires in
    let h : c.args.position < length c.self.inside.names.items = subst (λ (n : ℕ). c.args.position < n) (lent-length c.self.inside.names.items) w in
    search rules

pub returns : goal.returns
returns c =
    let items = c.self.inside.names.items in
    let x = c.index.result.now in
    let w : c.args.position < length (lent items) = subst (λ (xs : List Placed). c.args.position < length xs) (sym c.self.view_is) c.requires in
    let h : c.args.position < length items = subst (λ (n : ℕ). c.args.position < n) (lent-length items) w in
    sym (lent-at items c.args.position x h c.index.ensures) ∙ ap (λ (xs : List Placed). get_or xs c.args.position x.now) c.self.view_is

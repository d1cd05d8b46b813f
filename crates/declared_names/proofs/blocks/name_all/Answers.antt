use Rattle.std.proofs.Common.{◌≡◌, ◌++◌, None, OnOk, subst}
use Rattle.algolw_typing.specs.Names.{Scope}
use Rattle.algolw_typing.specs.Scopes.{Known}
use Rattle.declared_names.proofs.Placing.{alike_entries}
use Rattle.declared_names.proofs.blocks.name_all.Goals as goal

pub returns : goal.returns
returns c =
    subst (λ (es : Scope Known). OnOk c.declare_alike.result (c.declare_alike.new.scope ≡ c.args.scope.now ++ es))
    (alike_entries c.args.names.now None) c.declare_alike.ensures

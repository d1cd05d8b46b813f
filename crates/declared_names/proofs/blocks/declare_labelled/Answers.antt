use Rattle.std.proofs.Common.{◌≡◌, ◌++◌, Some, OnOk, subst}
use Rattle.algolw_typing.specs.Meanings.{a_label}
use Rattle.algolw_typing.specs.Names.{Scope}
use Rattle.algolw_typing.specs.Scopes.{Known}
use Rattle.declared_names.proofs.Placing.{alike_entries}
use Rattle.declared_names.proofs.blocks.declare_labelled.Goals as goal

pub returns : goal.returns
returns c =
    subst (λ (es : Scope Known). OnOk c.declare_alike.result (c.declare_alike.new.scope ≡ c.args.scope.now ++ es))
    (alike_entries c.args.labels.now (Some a_label)) c.declare_alike.ensures

use Rattle.std.proofs.Common.{◌≡◌, sym, ◌∙◌}
use Rattle.std.proofs.lemmas.Result.{IfOk-weaker}
use Rattle.algolw_tree.specs.View.{spec_tree}
use Rattle.algolw_typing.specs.Scopes as rules
use Rattle.typing_rules.specs.View.{value_type}
use Rattle.declared_names.specs.NamesAlong.{names_along}
use Rattle.declared_names.proofs.NamesOf.{type_along}
use Rattle.declared_names.proofs.classes.field_type.Goals as goal

pub returns : goal.returns
returns c =
    let path = c.args.path.now in
    let spec = spec_tree c.args.spec.now in
    IfOk-weaker c.spec_type.result (λ t. value_type t ≡ rules.spec_type path spec) (λ t. value_type t ≡ rules.spec_type (names_along path) spec)
    (λ t h. h ∙ sym (type_along path spec)) c.spec_type.ensures

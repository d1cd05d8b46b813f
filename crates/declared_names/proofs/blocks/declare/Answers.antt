use Rattle.std.proofs.Common.{rules, ◌≡◌, ◌++◌, OnOk, length, refl, subst}
use Rattle.algolw_typing.specs.Names.{Scope}
use Rattle.algolw_typing.specs.Scopes.{Known}
use Rattle.declared_names.specs.Blocks.{bounds_view}
use Rattle.declared_names.proofs.Bounding.{array_means}
use Rattle.declared_names.proofs.blocks.declare.Goals as goal

pub returns-in-Array : goal.returns-in-Array
returns-in-Array c around found =
    let count : c.len-dimensions.result ≡ length c.in-Array.sizes.items = search rules in
    subst (λ (es : Scope Known). OnOk c.declare_array.result (c.declare_array.new.scope ≡ c.args.scope.now ++ es))
    (array_means around c.args.path.now c.args.decl.now c.in-Array.spec c.in-Array.names c.in-Array.sizes c.len-dimensions.result c.args.bounds.faults.now (bounds_view c.args.bounds) c.in-Array.is count refl found) c.declare_array.ensures

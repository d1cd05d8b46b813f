use Rattle.std.proofs.Common.{◌+◌, ◌++◌, None, List, drop, map, sym, ap, ◌∙◌, append_assoc}
use Rattle.algolw_tree.specs.Tree.{Placed}
use Rattle.algolw_tree.specs.View.{spec_tree}
use Rattle.algolw_typing.specs.Names.{Scope}
use Rattle.algolw_typing.specs.Scopes.{Known, entries, group_names}
use Rattle.declared_names.proofs.Placing.{fields_next}
use Rattle.declared_names.proofs.blocks.name_fields.Goals as goal

pub loop-names-preserved : goal.loop-names-preserved
loop-names-preserved c =
    let items = c.deref-names-items.result.now in
    let before = c.loop-names.scope in
    let i = c.loop-names.names-index in
    let x = c.loop-names-item.result in
    let rest = entries (group_names (map (λ g. (spec_tree g.0, g.1.items)) (drop (i + 1) items))) None in
    ap (λ gs. c.name_all.new.scope ++ entries (group_names (map (λ g. (spec_tree g.0, g.1.items)) (drop (i + 1) gs))) None) (sym c.deref-names-items.ensures.value)
    ∙ ap (λ (s : Scope Known). s ++ rest) (c.in_ok-name_all.ensures ∙ ap (λ (ns : List Placed). before ++ entries ns None) c.deref.ensures.value) ∙ append_assoc before (entries x.1.items None) rest
    ∙ ap (λ (es : Scope Known). before ++ es) (sym (fields_next (λ g. (spec_tree g.0, g.1.items)) items i x None c.loop-names-test.true c.loop-names-item.is))
    ∙ ap (λ gs. before ++ entries (group_names (map (λ g. (spec_tree g.0, g.1.items)) (drop i gs))) None) c.deref-names-items.ensures.value ∙ c.loop-names.invariant

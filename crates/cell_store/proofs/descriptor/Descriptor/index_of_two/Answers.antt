use Rattle.std.proofs.Common.{◌≡◌, ◌≤◌, ◌+◌, ◌∷◌, [], ◌∙◌, ap, sym, pos, nat_lt, List, Some, None, get_or, arith, rules, w32}
use mir.Val.{to_z, of_z}
use Rattle.std.specs.Bool.{then_some}
use Rattle.cell_store.specs.declared.dimension.Dimension.{Dimension}
use Rattle.cell_store.specs.Arrays.{dimension, elements}
use Rattle.cell_store.specs.Held.{further}
use Rattle.cell_store.proofs.Indexing.{found_of_two, if_there, none_given, two_only}
use Rattle.cell_store.proofs.descriptor.Descriptor.index_of_two.Goals as goal

pub returns-clause-value : goal.returns-clause-value
returns-clause-value c =
    let now = c.args.self.now in
    let ds : List Dimension = c.dimensions.result.now in
    let blank : Dimension = dimension (pos 0, pos 0) in
    let total = c.self.inside.total in
    let items : ds ≡ now.dimensions = c.dimensions.ensures.value in
    let counted : total ≡ elements now.dimensions = c.self.invariant.counted ∙ ap (λ a. elements a.dimensions) c.self.view_is in
    let first : c.self.inside.first ≡ now.first = ap (λ a. a.first) c.self.view_is in
    let most : total ≤ 32768 = omega (arith, c.self.invariant.within) in
    let d : Dimension = get_or ds 0 blank in
    let e : Dimension = get_or ds 1 blank in
    let are : now.dimensions ≡ d ∷ e ∷ [] = sym items ∙ two_only ds blank c.in-len2.len_at_least c.in-len2.len_below in
    let free : d.given ≡ None = none_given d.given (sym c.is_some.ensures ∙ c.if-is_some.false) in
    let also : e.given ≡ None = none_given e.given (sym c.is_some-else-is_some.ensures ∙ c.if-is_some-2.false) in
    let one : to_z w32 (of_z w32 c.args.first) ≡ c.args.first = search rules in
    let other : to_z w32 (of_z w32 c.args.second) ≡ c.args.second = search rules in
    if_there now (c.args.first ∷ c.args.second ∷ []) c.then_some.result (then_some (nat_lt c.in_ok-offset.offset total) (now.first + c.in_ok-offset.offset))
    (λ cell is. found_of_two now d e c.args.first c.args.second total c.in_ok-before.before c.in_ok-offset.offset cell counted most are free also (ap (λ i. further d (Some i) 0) (sym one) ∙ sym c.further.ensures ∙ c.in_ok-before.was) (ap (λ i. further e (Some i) c.in_ok-before.before) (sym other) ∙ sym c.further-2.ensures ∙ c.in_ok-offset.was) is)
    (c.then_some.ensures ∙ ap (λ f. then_some (nat_lt c.in_ok-offset.offset total) (f + c.in_ok-offset.offset)) first)

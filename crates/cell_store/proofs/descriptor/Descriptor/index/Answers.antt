use Rattle.std.proofs.Common.{◌≡◌, ◌≤◌, ◌<◌, ◌+◌, ◌∙◌, ap, sym, refl, subst, pos, ℕ, ℤ, List, Option, Some, None, Ok, map, drop, length, get_or, arith}
use Rattle.std.specs.Prelude.{IfSome}
use Rattle.std.proofs.lemmas.List.{at_drop_all, get_or_default}
use Rattle.cell_store.specs.declared.dimension.Dimension.{Dimension}
use Rattle.cell_store.specs.Held.{further, further_all}
use Rattle.cell_store.specs.Arrays.{dimension, chosen, elements}
use Rattle.cell_store.proofs.Indexing.{index_is, not_found, found, found_within, chosen_next, left_next, taken_few, further_most, further_on, further_stops}
use Rattle.cell_store.proofs.descriptor.Descriptor.index.Goals as goal

pub returns-in_default-clause-value : goal.returns-in_default-clause-value
returns-in_default-clause-value c =
    let now = c.args.self.now in
    let more : List (Option ℤ) = map (λ i. Some i) c.args.subscripts.now in
    let k = c.loop-dimension.dimension-index in
    let next = c.loop-dimension.next in
    let d : Dimension = get_or c.dimensions-dimension-items.result.now k (dimension (pos 0, pos 0)) in
    let items : c.dimensions-dimension-items.result.now ≡ now.dimensions = c.dimensions-dimension-items.ensures.value in
    let inside : k < length now.dimensions = omega (arith, ap length items) in
    let given : c.chosen-subscript.result ≡ chosen d.given (drop next more) = c.chosen-subscript.ensures ∙ sym (chosen_next d.given c.args.subscripts.now next) in
    let here : get_or now.dimensions k d ≡ d = ap (λ ds. get_or ds k d) (sym items) ∙ get_or_default c.dimensions-dimension-items.result.now k d (dimension (pos 0, pos 0)) c.loop-dimension-test.true in
    let stops : further_all now.dimensions more 0 ≡ None = sym c.loop-dimension.invariant.rest ∙ further_stops now.dimensions k d c.chosen-subscript.result (drop next more) c.loop-dimension.offset inside here given (sym c.further.ensures ∙ c.in_default.is) in
    not_found now c.args.subscripts.now stops

pub loop-dimension-preserved : goal.loop-dimension-preserved
loop-dimension-preserved c =
    let now = c.args.self.now in
    let more : List (Option ℤ) = map (λ i. Some i) c.args.subscripts.now in
    let k = c.loop-dimension.dimension-index in
    let next = c.loop-dimension.next in
    let d : Dimension = get_or c.dimensions-dimension-items.result.now k (dimension (pos 0, pos 0)) in
    let items : c.dimensions-dimension-items.result.now ≡ now.dimensions = c.dimensions-dimension-items.ensures.value in
    let inside : k < length now.dimensions = omega (arith, ap length items) in
    let given : c.chosen-subscript.result ≡ chosen d.given (drop next more) = c.chosen-subscript.ensures ∙ sym (chosen_next d.given c.args.subscripts.now next) in
    let here : get_or now.dimensions k d ≡ d = ap (λ ds. get_or ds k d) (sym items) ∙ get_or_default c.dimensions-dimension-items.result.now k d (dimension (pos 0, pos 0)) c.loop-dimension-test.true in
    let on : further d c.chosen-subscript.result c.loop-dimension.offset ≡ Some c.in-Some.further = sym c.further.ensures ∙ c.in-Some.is in
    let left = left_next d.given more next (next + c.from-next.result) c.from-next.result c.is_none.result c.is_none.ensures c.from-next.ensures refl in
    record {
      rest = further_on now.dimensions k d c.chosen-subscript.result (drop next more) (drop (next + c.from-next.result) more) c.loop-dimension.offset c.in-Some.further inside here given left on ∙ c.loop-dimension.invariant.rest;
      most = further_most d c.chosen-subscript.result c.loop-dimension.offset c.in-Some.further on;
      few = omega (arith, c.from-next.ensures, taken_few c.is_none.result);
    }

pub returns-clause-value : goal.returns-clause-value
returns-clause-value c =
    let now = c.args.self.now in
    let more : List (Option ℤ) = map (λ i. Some i) c.args.subscripts.now in
    let n = c.loop-dimension.offset in
    let total = c.self.inside.total in
    let items : c.dimensions-dimension-items.result.now ≡ now.dimensions = c.dimensions-dimension-items.ensures.value in
    let past : length now.dimensions ≤ c.loop-dimension.dimension-index = omega (arith, ap length items) in
    let walked : further_all now.dimensions more 0 ≡ Some n = sym c.loop-dimension.invariant.rest ∙ at_drop_all (λ xs. further_all xs (drop c.loop-dimension.next more) n) now.dimensions c.loop-dimension.dimension-index past in
    let counted : total ≡ elements now.dimensions = c.self.invariant.counted ∙ ap (λ a. elements a.dimensions) c.self.view_is in
    let first : c.self.inside.first ≡ now.first = ap (λ a. a.first) c.self.view_is in
    ap (λ r. Ok r) c.then_some.ensures
    ∙ ap (λ f. found f total (Some n)) first
    ∙ ap (found now.first total) (sym walked)
    ∙ sym (index_is now c.args.subscripts.now total counted (omega (arith, c.self.invariant.within)))

pub returns-clause-within : goal.returns-clause-within
returns-clause-within c = subst (λ (o : Option ℕ). IfSome o (λ cell. cell < 32768)) (sym c.then_some.ensures) (found_within c.self.inside.first c.self.inside.total c.loop-dimension.offset c.self.invariant.within)

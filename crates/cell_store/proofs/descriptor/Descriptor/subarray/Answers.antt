use Rattle.std.proofs.Common.{◌≡◌, ◌<◌, ◌+◌, ◌∙◌, ap, sym, refl, subst, pos, ℕ, Ok, take, drop, length, get_or, arith}
use Rattle.std.specs.Option.{option_or, option_flatten}
use Rattle.std.specs.Prelude.{slice_set}
use Rattle.std.proofs.lemmas.List.{get_or_default, length-take-le}
use Rattle.cell_store.specs.declared.dimension.Dimension.{Dimension}
use Rattle.cell_store.specs.Arrays.{Array, dimension, chosen, filled}
use Rattle.cell_store.proofs.Indexing.{chosen_given, left_next, taken_few}
use Rattle.cell_store.proofs.Placing.{Begun, Giving, begun_more, giving_more, giving_all, subarray_stops, subarray_made, subarray_placed}
use Rattle.cell_store.proofs.descriptor.Descriptor.subarray.Goals as goal

pub loop-k-init : goal.loop-k-init
loop-k-init c = record {
  begun = record { all = refl; rest = refl };
  giving = record { given = refl; within = refl };
  few = omega arith;
}

pub returns-then-not-is_within : goal.returns-then-not-is_within
returns-then-not-is_within c =
    let now = c.args.self.now in
    let subscripts = c.args.subscripts.now in
    let k = c.loop-k.k in
    let next = c.loop-k.next in
    let d : Dimension = get_or c.dimensions-dimension-items.result.now k (dimension (pos 0, pos 0)) in
    let items : c.dimensions-dimension-items.result.now ≡ now.dimensions = c.dimensions-dimension-items.ensures.value in
    let inside : k < length now.dimensions = omega (arith, ap length items) in
    let here : get_or now.dimensions k d ≡ d = ap (λ ds. get_or ds k d) (sym items) ∙ get_or_default c.dimensions-dimension-items.result.now k d (dimension (pos 0, pos 0)) c.loop-k-test.true in
    let given : c.or-subscript.result ≡ chosen d.given (drop next subscripts) = c.or-subscript.ensures ∙ ap (option_or d.given) (c.flatten.ensures ∙ ap option_flatten c.item_at.ensures) ∙ sym (chosen_given d.given subscripts next) in
    subarray_stops now c.loop-k.dimensions k d c.or-subscript.result subscripts (drop next subscripts) inside here given (sym c.is_within.ensures ∙ c.if-not-is_within.true) c.loop-k.invariant.giving

pub loop-k-preserved : goal.loop-k-preserved
loop-k-preserved c =
    let now = c.args.self.now in
    let subscripts = c.args.subscripts.now in
    let k = c.loop-k.k in
    let next = c.loop-k.next in
    let after = next + c.from-next.result in
    let d : Dimension = get_or c.dimensions-dimension-items.result.now k (dimension (pos 0, pos 0)) in
    let items : c.dimensions-dimension-items.result.now ≡ now.dimensions = c.dimensions-dimension-items.ensures.value in
    let inside : k < length now.dimensions = omega (arith, ap length items) in
    let few : k < 8 = omega (arith, c.dimensions-dimension-items.ensures.most) in
    let here : get_or now.dimensions k d ≡ d = ap (λ ds. get_or ds k d) (sym items) ∙ get_or_default c.dimensions-dimension-items.result.now k d (dimension (pos 0, pos 0)) c.loop-k-test.true in
    let given : c.or-subscript.result ≡ chosen d.given (drop next subscripts) = c.or-subscript.ensures ∙ ap (option_or d.given) (c.flatten.ensures ∙ ap option_flatten c.item_at.ensures) ∙ sym (chosen_given d.given subscripts next) in
    let left = left_next d.given subscripts next after c.from-next.result c.is_none.result c.is_none.ensures c.from-next.ensures refl in
    let with : record d { given = c.or-subscript.result } ≡ c.with.result = sym c.with.ensures in
    let more = giving_more now.dimensions c.loop-k.dimensions k d c.or-subscript.result subscripts (drop next subscripts) (drop after subscripts) inside (omega (arith, c.loop-k.invariant.begun.all)) here given left (sym c.is_within.ensures ∙ c.if-not-is_within.false) c.loop-k.invariant.giving in
    let Given : Dimension → Type 0 = λ e. Giving now.dimensions (slice_set c.loop-k.dimensions k e) (k + 1) subscripts (drop after subscripts) in
    record {
      begun = begun_more c.loop-k.dimensions k c.with.result few c.loop-k.invariant.begun;
      giving = subst Given with more;
      few = omega (arith, c.loop-k.invariant.few, c.from-next.ensures, taken_few c.is_none.result);
    }

pub invariant_of-result : goal.invariant_of-result
invariant_of-result c =
    let now = c.args.self.now in
    let items : c.dimensions-dimension-items.result.now ≡ now.dimensions = c.dimensions-dimension-items.ensures.value in
    let viewed : take c.self.inside.count c.self.inside.dimensions ≡ now.dimensions = ap (λ a. a.dimensions) c.self.view_is in
    let count : length now.dimensions ≡ c.self.inside.count = ap length (sym viewed) ∙ length-take-le c.self.inside.count c.self.inside.dimensions (omega (arith, c.self.invariant.fits, c.self.invariant.all)) in
    let k : c.loop-k.k ≡ c.self.inside.count = omega (arith, ap length items, c.loop-k.auto.k-end, c.loop-k-test.false) in
    let all = giving_all now.dimensions c.loop-k.dimensions c.loop-k.k c.args.subscripts.now (drop c.loop-k.next c.args.subscripts.now) (omega (arith, ap length items)) c.loop-k.invariant.giving in
    let made : take c.self.inside.count c.loop-k.dimensions ≡ filled (take c.self.inside.count c.self.inside.dimensions) c.args.subscripts.now = ap (λ n. take n c.loop-k.dimensions) (sym k) ∙ all.0 ∙ ap (λ ds. filled ds c.args.subscripts.now) (sym viewed) in
    subarray_placed c.self.inside.dimensions c.loop-k.dimensions c.self.inside.count c.self.inside.first c.self.inside.total c.args.subscripts.now c.self.invariant (subst (λ (n : ℕ). Begun c.loop-k.dimensions n) k c.loop-k.invariant.begun) made

pub returns : goal.returns
returns c =
    let now = c.args.self.now in
    let items : c.dimensions-dimension-items.result.now ≡ now.dimensions = c.dimensions-dimension-items.ensures.value in
    let viewed : take c.self.inside.count c.self.inside.dimensions ≡ now.dimensions = ap (λ a. a.dimensions) c.self.view_is in
    let count : length now.dimensions ≡ c.self.inside.count = ap length (sym viewed) ∙ length-take-le c.self.inside.count c.self.inside.dimensions (omega (arith, c.self.invariant.fits, c.self.invariant.all)) in
    let k : c.loop-k.k ≡ c.self.inside.count = omega (arith, ap length items, c.loop-k.auto.k-end, c.loop-k-test.false) in
    let all = giving_all now.dimensions c.loop-k.dimensions c.loop-k.k c.args.subscripts.now (drop c.loop-k.next c.args.subscripts.now) (omega (arith, ap length items)) c.loop-k.invariant.giving in
    let made : take c.self.inside.count c.loop-k.dimensions ≡ filled now.dimensions c.args.subscripts.now = ap (λ n. take n c.loop-k.dimensions) (sym k) ∙ all.0 in
    ap (λ (a : Array). Ok (record a { dimensions = take c.self.inside.count c.loop-k.dimensions })) c.self.view_is ∙ subarray_made now (take c.self.inside.count c.loop-k.dimensions) c.args.subscripts.now made all.1

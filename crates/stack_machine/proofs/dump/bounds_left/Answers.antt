use Rattle.std.proofs.Common.{◌≡◌, ◌+◌, ◌<◌, suc, pos, Some, length, take, set, get_or, slice_get, ap, ◌∙◌, arith}
use Rattle.std.proofs.lemmas.List.{length-set}
use Rattle.std.proofs.lemmas.Option.{slice_get-get_or}
use Rattle.cell_store.specs.Arrays.{dimension}
use Rattle.cell_store.specs.declared.dimension.Dimension.{Dimension}
use Rattle.stack_machine.proofs.BoundsShown.{none_left, given_left, one_put, none_put}
use Rattle.stack_machine.proofs.dump.bounds_left.Goals as goal
use Rattle.stack_machine.proofs.dump.bounds_left.Goals.{then-is_none, else-is_none}

pub loop-dimension-preserved : goal.loop-dimension-preserved
loop-dimension-preserved c =
    let ds = c.dimensions-dimension-items.result.now in
    let k = c.loop-dimension.dimension-index in
    let n = c.loop-dimension.count in
    let was = c.loop-dimension.bounds in
    let inv = c.loop-dimension.invariant in
    let d : Dimension = get_or ds k (dimension (pos 0, pos 0)) in
    let here : slice_get ds k ≡ Some d = slice_get-get_or ds k (dimension (pos 0, pos 0)) c.loop-dimension-test.true in
    let next : k + 1 ≡ suc k = omega arith in
    let room : n < length was = omega (arith, inv.0, inv.1, inv.2, c.loop-dimension-test.true) in
    elim c.if-is_none.branch [
      | then-is_none w ↦
          let made : c.if-is_none.bounds ≡ set was n (d.lower, d.upper) = w.bounds-is ∙ ap (λ m. set was m w.bounds_of.result) w.from.ensures ∙ ap (λ b. set was n b) w.bounds_of.ensures in
          let more : c.if-is_none.count ≡ suc n = omega (arith, w.count-is) in (
            omega (arith, more, inv.0),
            inv.1,
            ap length made ∙ length-set was n (d.lower, d.upper) ∙ inv.2,
            one_put ds k n d was here inv.3 (none_left d d.given c.is_none.result c.is_none.ensures w.if-is_none.true) room c.if-is_none.bounds made c.if-is_none.count (k + 1) more next,
          )
      | else-is_none w ↦ (
        omega (arith, w.count-is, inv.0),
        inv.1,
        ap length w.bounds-is ∙ inv.2,
        ap (λ m. take m c.if-is_none.bounds) w.count-is ∙ ap (take n) w.bounds-is ∙ none_put ds k n d was here inv.3 (given_left d d.given c.is_none.result c.is_none.ensures w.if-is_none.false) (k + 1) next,
      )
    ]

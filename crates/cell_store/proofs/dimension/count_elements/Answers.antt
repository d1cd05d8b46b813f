use Rattle.std.proofs.Common.{◌∙◌, ap, pos, arith}
use Rattle.cell_store.specs.Arrays.{extent}
use Rattle.cell_store.proofs.Counting.{counted_more}
use Rattle.cell_store.proofs.dimension.count_elements.Goals as goal

pub loop-bound-preserved : goal.loop-bound-preserved
loop-bound-preserved c =
    let e = c.extent.ensures.value ∙ ap extent c.new.ensures in
    let more = counted_more c.args.bounds.now c.loop-bound.bound-index c.loop-bound.count (pos 0, pos 0) c.extent.result c.loop-bound-test.true e in
    record { rest = cc; most = omega (arith, c.capped-count.ensures) }

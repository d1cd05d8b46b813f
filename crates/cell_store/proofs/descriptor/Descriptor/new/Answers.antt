use Rattle.std.proofs.Common.{◌∙◌, ap, pos, arith}
use Rattle.std.specs.Prelude.{slice_set}
use Rattle.cell_store.proofs.Placing.{bounds_more}
use Rattle.cell_store.proofs.descriptor.Descriptor.new.Goals as goal

pub loop-k-preserved : goal.loop-k-preserved
loop-k-preserved c =
    ap (λ ds. slice_set ds c.loop-k.k c.new.result) c.loop-k.invariant
    ∙ bounds_more c.args.bounds.now c.loop-k.k (pos 0, pos 0) c.new.result c.loop-k-test.true (omega (arith, c.requires.most)) c.new.ensures

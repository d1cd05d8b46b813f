use Rattle.std.proofs.Common.{◌≡◌, ℕ, take, ap, ◌∙◌, arith}
use Rattle.std.proofs.lemmas.List.{take_all}
use Rattle.post_mortem.proofs.Cut.{both}
use Rattle.post_mortem.proofs.Pieces.{first_dimension, next_dimension}
use Rattle.post_mortem.proofs.dump.append_array.Goals.{then-i-gt0, else-i-gt0}
use Rattle.post_mortem.proofs.dump.append_array.Goals as goal

pub loop-i-preserved : goal.loop-i-preserved
loop-i-preserved c =
    elim c.if-i-gt0.branch [
      | then-i-gt0 w ↦ next_dimension _ _ _ _ _ _ _ c.loop-i-test.true w.if-i-gt0.true c.loop-i.invariant w.append-then-i-gt0.ensures (rw w.line-is at c.append_pair.ensures)
      | else-i-gt0 w ↦ first_dimension _ _ _ _ _ _ c.loop-i-test.true w.if-i-gt0.false c.loop-i.invariant (rw w.line-is at c.append_pair.ensures)
    ]

pub returns : goal.returns
returns c =
    let whole : take c.loop-i.i (take c.from.result c.args.dimensions.now.bounds) ≡ take c.args.dimensions.now.count c.args.dimensions.now.bounds =
    take_all _ _ (omega arith) ∙ ap (λ (n : ℕ). take n c.args.dimensions.now.bounds) c.from.ensures in
    both _ _ _ _ _ (rw whole at c.loop-i.invariant) c.append-2.ensures

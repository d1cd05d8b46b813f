use Rattle.std.proofs.Common.{sym, ap, ◌∙◌, arith, Some, w32}
use Rattle.std.proofs.lemmas.Int.{to_z-of_z}
use Rattle.machine_rows.proofs.Ints.{set_long, pairs_further}
use Rattle.machine_rows.proofs.arrays.paired.Goals as goal

pub loop-k-preserved : goal.loop-k-preserved
loop-k-preserved c =
    let k = c.loop-k.k in
    let lower = to_z-of_z w32 c.number_at-lower.result (record { sfits = c.number_at-lower.type_inv }) in
    let upper = to_z-of_z w32 c.number_at-upper.result (record { sfits = c.number_at-upper.type_inv }) in
    record {
      long = set_long c.loop-k.pairs k _ ∙ c.loop-k.invariant.long;
      so_far = pairs_further c.args.numbers.now k c.loop-k.pairs _ _ (omega (arith, c.loop-k.invariant.long, c.loop-k-test.true, c.requires.few)) (c.number_at-lower.ensures ∙ ap (λ i. Some i) (sym lower)) (c.number_at-upper.ensures ∙ ap (λ i. Some i) (sym upper)) c.loop-k.invariant.so_far;
    }

use Rattle.std.proofs.Common.{◌<◌, subst}
use Rattle.std.proofs.lemmas.List.Edits.{map_over_more}
use Rattle.stack_code.specs.Linking.{linked_coded}
use Rattle.stack_code.proofs.linking.link_instructions.Goals as goal

pub loop-number-preserved : goal.loop-number-preserved
loop-number-preserved c =
    let n = c.loop-number.number in
    let there = subst (λ k. n < k) c.len-number-end.ensures c.loop-number-test.true in
    rw c.linked-coded.ensures (map_over_more (linked_coded c.args.targets.now) c.args.instructions.now c.loop-number.instructions n c.index_mut-coded.result.now there c.loop-number.invariant c.index_mut-coded.ensures.value)

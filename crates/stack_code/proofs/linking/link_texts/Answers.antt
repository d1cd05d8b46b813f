use Rattle.std.proofs.Common.{◌<◌, subst}
use Rattle.std.proofs.lemmas.List.Edits.{map_over_more}
use Rattle.stack_code.specs.Linking.{linked_text}
use Rattle.stack_code.proofs.linking.link_texts.Goals as goal

pub loop-number-preserved : goal.loop-number-preserved
loop-number-preserved c =
    let n = c.loop-number.number in
    let there = subst (λ k. n < k) c.len-number-end.ensures c.loop-number-test.true in
    rw c.linked-text.ensures (map_over_more (linked_text c.args.targets.now) c.args.texts.now c.loop-number.texts n c.index_mut-text.result.now there c.loop-number.invariant c.index_mut-text.ensures.value)

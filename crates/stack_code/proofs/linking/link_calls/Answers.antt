use Rattle.std.proofs.Common.{◌<◌, subst}
use Rattle.std.proofs.lemmas.List.Edits.{map_over_more}
use Rattle.stack_code.specs.Linking.{linked_call}
use Rattle.stack_code.proofs.linking.link_calls.Goals as goal

pub loop-number-preserved : goal.loop-number-preserved
loop-number-preserved c =
    let n = c.loop-number.number in
    let there = subst (λ k. n < k) c.len-number-end.ensures c.loop-number-test.true in
    rw (c.set_source.ensures, c.linked.ensures, c.source.ensures) (map_over_more (linked_call c.args.targets.now) c.args.calls.now c.loop-number.calls n c.index_mut-call.result.now there c.loop-number.invariant c.index_mut-call.ensures.value)

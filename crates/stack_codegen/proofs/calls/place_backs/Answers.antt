use Rattle.stack_codegen.proofs.CallLoops.{places_more, places_node, places_past}
use Rattle.stack_codegen.proofs.CallsMade.{placed_done}
use Rattle.stack_codegen.proofs.calls.place_backs.Goals as goal

pub loop-actual-preserved : goal.loop-actual-preserved
loop-actual-preserved c =
    let now = places_node c.args.actuals.now c.loop-actual.actual-index c.actual-item.result c.in-Phrase.node c.in-Phrase.is c.loop-actual-test.true c.actual-item.is c.loop-actual.invariant in
    places_more c.in-Phrase.node _ c.index-head.result.now c.in_ok-formal.formal _ c.index-head.ensures c.in_ok-formal.ensures (placed_done c.args.here c.in-Phrase.node _ _ c.in_ok-place_back.ensures) now

pub loop-actual-preserved-in_default : goal.loop-actual-preserved-in_default
loop-actual-preserved-in_default c = places_past c.args.actuals.now c.loop-actual.actual-index c.actual-item.result c.in_default.field-0 c.in_default.is c.loop-actual-test.true c.actual-item.is c.loop-actual.invariant

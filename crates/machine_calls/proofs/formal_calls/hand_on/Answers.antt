use Rattle.machine_calls.proofs.Handing.{hand_there, hand_done}
use Rattle.machine_calls.proofs.formal_calls.hand_on.Goals as goal

pub hold_source-requires : goal.hold_source-requires
hold_source-requires g c = hand_there g.was.0 c.args.state.now g.was.1 c.requires.0 c.args.source c.requires.1

pub returns : goal.returns
returns g c = hand_done g.was.0 c.args.state.now g.was.1 c.requires.0 c.args.source c.requires.1 c.hold_source.new.state c.hold_source.result c.hold_source.ensures.held c.hold_source.ensures.wide c.hold_source.ensures.kept

use Rattle.std.proofs.Common.{arith}
use Rattle.machine_rows.proofs.Entering.{aside_within, aside_allowed, aside_done}
use Rattle.machine_calls.proofs.texts.enter_aside.Goals as goal

pub overflow_add-frame : goal.overflow_add-frame
overflow_add-frame g c = omega (arith, c.requires.1.0, c.requires.1.1.0, c.requires.0.few)

pub overflow_add-head : goal.overflow_add-head
overflow_add-head g c = omega (arith, aside_within g.seen c.args.state.now c.args.held c.requires.0 c.args.purpose c.args.kind c.args.head c.requires.1.1.1.1.0 c.requires.1.1.1.1.1, c.requires.0.few)

pub unreachable-requires : goal.unreachable-requires
unreachable-requires g c = cc (aside_allowed g.seen c.args.state.now c.args.held c.requires.0 c.args.purpose c.args.kind c.args.head c.requires.1.1.1.1.0, c.enter.ensures.answer, c.in-Err.is)

pub returns : goal.returns
returns g c =
    aside_done g.seen c.args.state.now c.args.held c.requires.0 c.args.purpose c.args.kind c.args.head c.requires.1.1.1.1.0 c.requires.1.1.1.0 c.args.pc c.requires.1.0 c.enter.new.self
    (cc (c.in-Ok.ensures.entered, c.current.ensures, c.current-2.ensures, c.entry_count.ensures, c.live.ensures.count)) c.go_to.result c.go_to.ensures

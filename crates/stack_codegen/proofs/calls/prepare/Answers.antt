use Rattle.std.proofs.Common.{◌<◌, [], length, arith}
use Rattle.stack_codegen.specs.Calls.{compared_call}
use Rattle.stack_codegen.proofs.Heads.{prepare_fits, prepared_all, prepared_more}
use Rattle.stack_codegen.proofs.calls.prepare.Goals as goal

pub append-requires : goal.append-requires
append-requires c = prepare_fits c.args.here c.args.call c.loop-formal.formal c.args.count c.requires.call c.requires.count c.loop-formal-test.true c.loop-formal.invariant

pub loop-formal-preserved : goal.loop-formal-preserved
loop-formal-preserved c =
    let inside : c.loop-formal.formal < length (compared_call c.args.emitter.now [] c.args.call).heads = omega (arith, c.loop-formal-test.true, c.requires.count) in
    prepared_more c.args.here c.args.call c.loop-formal.formal c.requires.call inside
    (prepare_fits c.args.here c.args.call c.loop-formal.formal c.args.count c.requires.call c.requires.count c.loop-formal-test.true c.loop-formal.invariant)
    c.loop-formal.invariant c.in_ok-append.ensures.appended c.in_ok-append-2.ensures.appended c.in_ok-append-3.ensures.appended

pub returns : goal.returns
returns c = prepared_all c.args.here c.args.call c.loop-formal.formal c.args.count c.requires.count c.loop-formal-test.false c.loop-formal.invariant

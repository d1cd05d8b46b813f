use Rattle.std.proofs.Common.{◌+◌, sym, ap, ◌∙◌, subst}
use Rattle.stack_code.specs.Table as table
use Rattle.machine_rows.specs.Seen.{IsClear}
use Rattle.machine_rows.specs.declared.next.Next.TheVariants as comes
use Rattle.machine_rows.specs.Rows.{Goes}
use Rattle.machine_calls.proofs.Handing.{name_handed, hand_some, ready_done}
use Rattle.machine_calls.proofs.formal_calls.prepare_name.Goals as goal

pub hold_source-requires : goal.hold_source-requires
hold_source-requires g c =
    let row = name_handed g.seen c.args.state.now c.args.held c.requires.0 c.args.source c.args.head c.args.is c.in-Procedure.is in
    hand_some g.seen c.args.state.now c.args.held c.requires.0 c.args.source table.ready (subst IsClear row c.requires.1.1.1.1.0)

pub returns-in-Procedure : goal.returns-in-Procedure
returns-in-Procedure g c =
    let row = name_handed g.seen c.args.state.now c.args.held c.requires.0 c.args.source c.args.head c.args.is c.in-Procedure.is in
    subst (Goes g.seen c.hold_source.new.state c.args.held c.ready-in-Procedure.result) (sym row)
    (ready_done g.seen c.args.state.now c.args.held c.requires.0 c.args.source (subst IsClear row c.requires.1.1.1.1.0) c.hold_source.new.state c.hold_source.ensures.wide c.hold_source.ensures.kept c.args.pc c.requires.1.0 c.ready-in-Procedure.result
    (c.ready-in-Procedure.ensures ∙ ap (λ x. comes.On (record { pc = c.args.pc + 2; held = x })) c.hold_source.ensures.held))

use Rattle.std.proofs.Common.{◌-◌, IsSome, take, refl, sym, ap, ◌∙◌, subst}
use Rattle.machine_control.proofs.Cutting.{ends_turn, turn_ended, same_some}
use Rattle.machine_control.proofs.loops.end_turn.Goals as goal

pub entry_out-requires : goal.entry_out-requires
entry_out-requires g c = subst IsSome (sym (ends_turn g.seen c.args.state.now c.args.held c.requires.0 c.args.position c.requires.1).is) refl

pub unreachable-requires : goal.unreachable-requires
unreachable-requires g c =
    let b = ends_turn g.seen c.args.state.now c.args.held c.requires.0 c.args.position c.requires.1 in
    c.in_default.not-Turn b.place b.back (same_some (sym c.entry_out.ensures ∙ b.is))

pub returns : goal.returns
returns g c =
    let z = c.cut_to_position.new.state in
    turn_ended g.seen c.args.state.now c.args.held c.requires.0 c.args.position c.requires.1 c.in-Turn.place c.in-Turn.back c.in-Turn.ensures z c.cut_to_position.ensures
    c.cut_to.new.self (c.cut_to.ensures ∙ ap (λ n. record z.store { cells = take (n - 1) z.store.cells }) c.live-below.ensures.count) c.go_to.result c.go_to.ensures

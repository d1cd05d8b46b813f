use Rattle.std.proofs.Common.{◌≡◌, ◌-◌, true, nat_lt, ap, ◌∙◌, w32}
use Rattle.std.proofs.lemmas.Int.{to_z-of_z}
use Rattle.value_ops.specs.declared.faults.Limit.TheVariants as limit
use Rattle.machine_rows.specs.declared.held.Halt.TheVariants as halt
use Rattle.machine_control.proofs.Entries.{if_ok}
use Rattle.machine_control.proofs.HeldRows.{taken_goes}
use Rattle.machine_control.proofs.loops.take_turn.Goals as goal

pub returns-in-Ok : goal.returns-in-Ok
returns-in-Ok g c =
    let s = c.args.state.now in
    let l : nat_lt s.steps g.seen.setting.steps ≡ true = ap (nat_lt s.steps) c.requires.1.0.steps ∙ if_ok (nat_lt s.steps c.args.given.now.steps) (halt.Limit limit.Steps) tt c.in-Ok.ensures.answer in
    taken_goes g.seen s c.args.held c.requires.0 c.args.target c.args.control l c.tick.new.state c.in-Ok.ensures.stepped c.saturating_sub-cell.result (c.saturating_sub-cell.ensures ∙ ap (λ n. n - 3) c.live.ensures.count)
    (to_z-of_z w32 c.args.control c.ranges.control) c.set_cell.new.self c.set_cell.ensures c.go_to.result c.go_to.ensures

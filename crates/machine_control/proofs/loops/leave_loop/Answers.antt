use Rattle.std.proofs.Common.{◌≡◌, ◌-◌, false, length, take, sym, ap, ◌∙◌, subst}
use Rattle.std.specs.Prelude.{pos}
use Rattle.cell_store.specs.Stores.{Store}
use Rattle.stack_code.specs.Table.{turn_or_exit}
use Rattle.machine_rows.specs.Seen.{machine_of}
use Rattle.cell_store.specs.declared.cells.Word.TheVariants as held
use Rattle.machine_rows.specs.declared.next.Next.{Next}
use Rattle.machine_rows.specs.declared.next.Next.TheVariants as comes
use Rattle.machine_rows.specs.Rows.{Goes}
use Rattle.machine_control.proofs.Entries.{cut_cells_stand}
use Rattle.machine_control.proofs.HeldRows.{loop_left}
use Rattle.machine_control.proofs.loops.leave_loop.Goals as goal

pub returns : goal.returns
returns g c before =
    let s = c.args.state.now in
    let store : c.cut_to.new.self ≡ record s.store { cells = take (length s.store.cells - 3) s.store.cells } = c.cut_to.ensures ∙ ap (λ n. record s.store { cells = take (n - 3) s.store.cells }) c.live-below.ensures.count in
    subst (λ (r : Next). Goes g.seen (record s { store = c.cut_to.new.self }) before r (turn_or_exit g.seen.setting 0 c.args.exit false (pos 0) (machine_of g.seen s before))) (sym c.go_to.ensures)
    (subst (λ (t : Store). Goes g.seen (record s { store = t }) before (comes.On (record { pc = c.args.exit; held = held.Nothing })) (turn_or_exit g.seen.setting 0 c.args.exit false (pos 0) (machine_of g.seen s before))) (sym store)
    (record { is = loop_left g.seen s before c.requires.0 c.args.exit c.requires.1; stands = cut_cells_stand g.seen s (length s.store.cells - 3) c.requires.0 }))

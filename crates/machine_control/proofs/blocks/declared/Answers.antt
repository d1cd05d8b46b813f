use Rattle.std.proofs.Common.{sym, subst}
use Rattle.std.specs.Prelude.{Ok}
use Rattle.stack_code.specs.declared.instructions.Instr.TheVariants as instr
use Rattle.machine_rows.specs.declared.state.State.{State}
use Rattle.machine_rows.specs.Seen.{Comes, machine_of, row_of}
use Rattle.machine_control.proofs.BlockRows.{declared_comes}
use Rattle.machine_control.proofs.blocks.declared.Goals as goal

pub returns : goal.returns
returns g c =
    subst (λ (z : State). Comes g.was.0 z g.was.1 (Ok g.was.1) (row_of g.was.0 0 instr.Declared (machine_of g.was.0 c.args.state.now g.was.1))) (sym c.enter.ensures)
    (declared_comes g.was.0 c.args.state.now g.was.1 c.requires.0 (record { cells = c.live.result; depth = c.depth.result; frames = c.frame_count.result }) c.live.ensures.count c.depth.ensures c.frame_count.ensures.count c.requires.1)

use Rattle.std.proofs.Common.{IsSome, refl, sym, ◌∙◌, subst}
use Rattle.machine_control.proofs.Cutting.{leaves_block, block_left, same_some}
use Rattle.machine_control.proofs.blocks.leave_block.Goals as goal

pub entry_out-requires : goal.entry_out-requires
entry_out-requires g c = subst IsSome (sym (leaves_block g.was.0 c.args.state.now g.was.1 c.requires.0 c.args.position c.requires.1).is) refl

pub unreachable-requires : goal.unreachable-requires
unreachable-requires g c =
    let b = leaves_block g.was.0 c.args.state.now g.was.1 c.requires.0 c.args.position c.requires.1 in
    c.in_default.not-Block b.place b.cells (same_some (sym c.entry_out.ensures ∙ b.is))

pub returns : goal.returns
returns g c =
    block_left g.was.0 c.args.state.now g.was.1 c.requires.0 c.args.position c.requires.1 c.in-Block.place c.in-Block.cells c.in-Block.ensures c.cut_to.new.self c.cut_to.ensures
    c.cut_to_position.new.state c.cut_to_position.ensures

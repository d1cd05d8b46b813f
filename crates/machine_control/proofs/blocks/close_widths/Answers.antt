use Rattle.std.proofs.Common.{refl}
use Rattle.machine_control.proofs.Cutting.{widths_start, widths_closed}
use Rattle.machine_control.proofs.blocks.close_widths.Goals as goal

pub cut_to_position-requires : goal.cut_to_position-requires
cut_to_position-requires g c = widths_start g.was.0 c.args.state.now g.was.1 c.requires.0 c.args.position c.requires.1

pub returns : goal.returns
returns g c = widths_closed g.was.0 c.args.state.now g.was.1 c.requires.0 c.args.position _ refl c.requires.1 c.cut_to_position.new.state c.cut_to_position.ensures

use Rattle.machine_rows.proofs.Operands.{unary_comes}
use Rattle.machine_rows.proofs.operators.unary.Goals as goal

pub returns : goal.returns
returns g c =
    unary_comes g.seen c.args.state.now c.args.held c.args.op c.unary_operation.new.state c.unary_operation.result c.requires.0 c.requires.1 c.unary_operation.ensures.answer c.unary_operation.ensures.unchanged
    (c.unary_operation.ensures.fits g.seen.code.given c.requires.0.kinds.wide) c.unary_operation.ensures.kept

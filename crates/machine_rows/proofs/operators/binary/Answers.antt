use Rattle.std.proofs.Common.{◌≡◌, suc, ◌-◌, length, arith}
use Rattle.machine_rows.proofs.Operands.{binary_some, binary_fits, binary_goes}
use Rattle.machine_rows.proofs.operators.binary.Goals as goal

pub live_cell-left-requires : goal.live_cell-left-requires
live_cell-left-requires g c =
    let some = binary_some g.seen c.args.state.now c.args.held c.args.op c.requires.1 in
    omega (arith, c.live-newest.ensures.count, some)

pub operation-requires : goal.operation-requires
operation-requires g c =
    let s = c.args.state.now in
    let some = binary_some g.seen s c.args.held c.args.op c.requires.1 in
    let last : suc (c.live-newest.result - 1) ≡ length s.store.cells = omega (arith, c.live-newest.ensures.count, some) in
    binary_fits g.seen s c.args.held c.args.op (c.live-newest.result - 1) c.live_cell-left.result c.requires.1 last c.live_cell-left.ensures

pub returns : goal.returns
returns g c =
    let s = c.args.state.now in
    let some = binary_some g.seen s c.args.held c.args.op c.requires.1 in
    let last : suc (c.live-newest.result - 1) ≡ length s.store.cells = omega (arith, c.live-newest.ensures.count, some) in
    binary_goes g.seen s c.args.held c.args.op (c.live-newest.result - 1) c.cut_to.new.self c.live_cell-left.result c.operation.result c.requires.0 c.requires.1 last c.cut_to.ensures c.live_cell-left.ensures (c.operation.ensures s.wide)

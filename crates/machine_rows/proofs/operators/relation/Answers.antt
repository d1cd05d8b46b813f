use Rattle.std.proofs.Common.{◌≡◌, suc, ◌-◌, length, sym, ap, ◌∙◌, arith}
use Rattle.machine_rows.specs.Answers.{given}
use Rattle.machine_rows.specs.Contents.{value_by}
use Rattle.machine_rows.proofs.Operands.{relation_some, relation_found, relation_goes}
use Rattle.machine_rows.proofs.operators.relation.Goals as goal

pub relation_holds-truth-requires : goal.relation_holds-truth-requires
relation_holds-truth-requires g c =
    let s = c.args.state.now in
    let some = relation_some g.seen s c.args.held c.args.op c.requires.1 in
    let last : suc (c.live-newest.result - 1) ≡ length s.store.cells = omega (arith, c.live-newest.ensures.count, some) in
    relation_found g.seen s c.args.held c.args.op (c.live-newest.result - 1) c.requires.1 last

pub returns : goal.returns
returns g c =
    let s = c.args.state.now in
    let some = relation_some g.seen s c.args.held c.args.op c.requires.1 in
    let last : suc (c.live-newest.result - 1) ≡ length s.store.cells = omega (arith, c.live-newest.ensures.count, some) in
    relation_goes g.seen s c.args.held c.args.op (c.live-newest.result - 1) c.cut_to.new.self c.logical.result c.requires.0 c.requires.1 last c.cut_to.ensures
    (ap (λ o. given (value_by s.wide o)) c.logical.ensures.word ∙ sym c.relation_holds-truth.ensures)

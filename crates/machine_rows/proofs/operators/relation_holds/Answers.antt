use Rattle.std.proofs.Common.{◌≡◌, false, ◌∙◌, subst}
use Rattle.cell_store.specs.Words.{is_wide}
use Rattle.machine_rows.specs.Answers.{IsAnswered}
use Rattle.machine_rows.proofs.Tops.{narrow_of}
use Rattle.machine_rows.proofs.Operands.{relations_are, relation_within}
use Rattle.machine_rows.proofs.operators.relation_holds.Goals as goal

pub live_cell-requires : goal.live_cell-requires
live_cell-requires c = relation_within c.args.op c.args.state.now.store.cells c.args.cell c.args.state.now.wide c.args.held c.requires

pub words_compared-requires : goal.words_compared-requires
words_compared-requires c =
    let narrow : is_wide c.args.held ≡ false = narrow_of c.args.held c.in_default.not-Wide in
    subst IsAnswered (relations_are c.args.op _ c.live_cell.result c.args.state.now.wide c.args.held c.live_cell.ensures narrow c.requires) c.requires

pub returns-in_default : goal.returns-in_default
returns-in_default c =
    let narrow : is_wide c.args.held ≡ false = narrow_of c.args.held c.in_default.not-Wide in
    relations_are c.args.op _ c.live_cell.result c.args.state.now.wide c.args.held c.live_cell.ensures narrow c.requires ∙ c.words_compared.ensures

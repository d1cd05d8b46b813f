use Rattle.std.proofs.Common.{◌≡◌, ◌++◌, ◌-◌, [], ◌∷◌, length, sym, ap, ◌∙◌, subst}
use Rattle.std.specs.Prelude.{Ok}
use Rattle.value_ops.specs.declared.places.Place.{Place}
use Rattle.cell_store.specs.declared.entries.Entry.TheVariants as entry
use Rattle.stack_code.specs.CodeView.{CodeView, statement_view}
use Rattle.stack_code.specs.Doing.{go_on}
use Rattle.stack_code.specs.declared.instructions.Instr.TheVariants as instr
use Rattle.machine_rows.specs.declared.state.State.{State}
use Rattle.machine_rows.specs.Seen.{Comes, machine_of, row_of}
use Rattle.machine_control.proofs.LoopRows.{turned_is, turned_stands, turned_state}
use Rattle.machine_control.proofs.loops.turn.Goals as goal

pub returns : goal.returns
returns g c =
    let s = c.args.state.now in
    let v = g.was.0 in
    let place : c.statement_place.result ≡ statement_view v.code.given c.args.at = c.statement_place.ensures ∙ ap (λ (k : CodeView). statement_view k.given c.args.at) (sym c.requires.1.0.code) in
    let made : c.enter_turn.new.state ≡ turned_state v s g.was.1 c.requires.0 (statement_view v.code.given c.args.at) 0 c.args.name 3 go_on =
    c.enter_turn.ensures.entered ∙ ap (λ (p : Place). record s { store = record s.store { entries = (s.store.entries ++ entry.Turn p 0 ∷ []) ++ entry.Name c.args.name (length s.store.cells - 3) ∷ [] } }) place in
    subst (λ (z : State). Comes v z g.was.1 (Ok g.was.1) (row_of v c.args.at (instr.Turn c.args.name) (machine_of v s g.was.1))) (sym made) (record {
      is = turned_is v s g.was.1 c.requires.0 (statement_view v.code.given c.args.at) 0 c.args.name 3 go_on c.requires.1.1.1;
      stands = turned_stands v s g.was.1 c.requires.0 (statement_view v.code.given c.args.at) 0 c.args.name 3 go_on c.requires.1.1.0 c.enter_turn.ensures.few;
    })

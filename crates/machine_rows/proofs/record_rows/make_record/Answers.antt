use Rattle.std.proofs.Common.{◌≡◌, ◌-◌, length, take, sym, ap, ◌∙◌, subst, arith}
use Rattle.std.specs.Prelude.{Ok}
use Rattle.cell_store.specs.declared.cells.Word.{Word as Held}
use Rattle.stack_code.specs.declared.instructions.Instr.TheVariants as instr
use Rattle.machine_rows.specs.Seen.{Comes, machine_of, row_of}
use Rattle.machine_rows.proofs.Filling.{filled, value_there, record_comes, record_not}
use Rattle.machine_rows.proofs.record_rows.make_record.Goals as goal

pub overflow_sub-first : goal.overflow_sub-first
overflow_sub-first g c =
    let s = c.args.state.now in
    let f = filled g.was.0 s g.was.1 c.args.class c.args.count c.requires.1.1 in
    omega (arith, f.enough, c.live.ensures.count)

pub fill-requires-clause-within : goal.fill-requires-clause-within
fill-requires-clause-within g c =
    let s = c.args.state.now in
    let f = filled g.was.0 s g.was.1 c.args.class c.args.count c.requires.1.1 in
    omega (arith, f.enough, c.live.ensures.count)

pub fill-requires-clause-values : goal.fill-requires-clause-values
fill-requires-clause-values g c = λ k less.
    let s = c.args.state.now in
    let first : c.live.result - c.args.count ≡ length s.store.cells - c.args.count = ap (λ n. n - c.args.count) c.live.ensures.count in
    value_there g.was.0 s g.was.1 c.args.class c.args.count c.requires.1.1 (c.live.result - c.args.count) first k less

pub returns-in-Ok : goal.returns-in-Ok
returns-in-Ok g c =
    let s = c.args.state.now in
    let first : c.live.result - c.args.count ≡ length s.store.cells - c.args.count = ap (λ n. n - c.args.count) c.live.ensures.count in
    subst (λ (k : Held). Comes g.was.0 (record s { store = c.cut_to.new.self; records = c.fill.new.records }) g.was.1 (Ok k) (row_of g.was.0 0 (instr.MakeRecord c.args.class c.args.count) (machine_of g.was.0 s g.was.1))) (sym c.reference.ensures.is)
    (record_comes g.was.0 s g.was.1 c.args.class c.args.count c.cut_to.new.self c.make.new.self c.fill.new.records c.in-Ok.id (c.live.result - c.args.count) c.requires.0 c.requires.1.0 c.requires.1.1 first
    (c.cut_to.ensures ∙ ap (λ n. record s.store { cells = take n s.store.cells }) first) c.in-Ok.ensures.made c.in-Ok.ensures.answer c.fill.ensures)

pub returns-in-Err : goal.returns-in-Err
returns-in-Err g c =
    let s = c.args.state.now in
    let first : c.live.result - c.args.count ≡ length s.store.cells - c.args.count = ap (λ n. n - c.args.count) c.live.ensures.count in
    record_not g.was.0 s g.was.1 c.args.class c.args.count c.cut_to-in-Err.new.self c.make.new.self c.in-Err.limit c.requires.0 c.requires.1.1
    (c.cut_to-in-Err.ensures ∙ ap (λ n. record s.store { cells = take n s.store.cells }) first) c.in-Err.ensures.unchanged c.in-Err.ensures.answer

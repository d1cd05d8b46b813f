use Rattle.std.proofs.Common.{List, replicate, None, Option, length, sym, ap, ◌∙◌, subst}
use Rattle.std.specs.Prelude.{Ok, Err, if◌then◌else◌}
use Rattle.std.proofs.lemmas.List.{length-replicate}
use Rattle.value_ops.specs.declared.faults.Limit.TheVariants as limit
use Rattle.value_ops.specs.declared.values.Value.{Value}
use Rattle.cell_store.specs.declared.cells.Word.{Word as Held}
use Rattle.record_store.specs.Records.{Record, has_room}
use Rattle.stack_code.specs.declared.instructions.Instr.TheVariants as instr
use Rattle.machine_rows.specs.declared.held.Halt.TheVariants as halt
use Rattle.machine_rows.specs.Seen.{Comes, machine_of, row_of}
use Rattle.machine_rows.proofs.Making.{made_on, made_not}
use Rattle.machine_rows.proofs.record_rows.make_record_alone.Goals as goal

pub returns-in-Ok : goal.returns-in-Ok
returns-in-Ok g c =
    let s = c.args.state.now in
    subst (λ (k : Held). Comes g.was.0 (record s { records = c.make.new.self }) g.was.1 (Ok k) (row_of g.was.0 0 (instr.MakeRecordAlone c.args.class c.args.count) (machine_of g.was.0 s g.was.1))) (sym c.reference.ensures.is)
    (made_on g.was.0 s g.was.1 c.args.class (replicate c.args.count None) c.make.new.self c.in-Ok.id c.requires.0 c.requires.1.0 c.in-Ok.ensures.made
    (c.in-Ok.ensures.answer ∙ ap (λ n. if has_room s.records n then Ok (record { 0 = length s.records }) else Err limit.Records) (sym (length-replicate {A = Option Value} c.args.count None))))

pub returns-in-Err : goal.returns-in-Err
returns-in-Err g c =
    let s = c.args.state.now in
    subst (λ (rs : List Record). Comes g.was.0 (record s { records = rs }) g.was.1 (Err (halt.Limit c.in-Err.limit)) (row_of g.was.0 0 (instr.MakeRecordAlone c.args.class c.args.count) (machine_of g.was.0 s g.was.1))) (sym c.in-Err.ensures.unchanged)
    (made_not g.was.0 s g.was.1 c.args.class (replicate c.args.count None) c.in-Err.limit c.requires.0
    (c.in-Err.ensures.answer ∙ ap (λ n. if has_room s.records n then Ok (record { 0 = length s.records }) else Err limit.Records) (sym (length-replicate {A = Option Value} c.args.count None))))

use Rattle.std.proofs.Common.{◌<◌, ◌≤◌, length, sym, ap, ◌∙◌, arith}
use Rattle.std.proofs.lemmas.Option.{slice_get-get_or, slice_get_past}
use Rattle.value_ops.specs.declared.values.ClassId.{ClassId}
use Rattle.post_mortem.specs.declared.entries.Shown.TheVariants as shown
use Rattle.record_classes.specs.Classes.{class_of}
use Rattle.stack_machine.proofs.RecordShown.{record_found, shown_made}
use Rattle.stack_machine.proofs.dump.shown_record.Goals as goal

pub returns-then-from-count-clause-shown : goal.returns-then-from-count-clause-shown
returns-then-from-count-clause-shown c =
    let g = c.args.code.now.given in
    let rs = c.args.state.now.records in
    let l : c.args.id.0 < length rs = omega (arith, c.if-from-count.true, c.from.ensures, c.count.ensures) in
    ap (λ name. shown.Record name c.args.id) (c.class_name.ensures ∙ ap (λ (k : ClassId). (class_of g.classes k).name) c.class_of-class.ensures)
    ∙ ap (shown_made g c.args.id) (sym (slice_get-get_or rs c.args.id.0 _ l))
    ∙ sym (record_found g c.args.id rs)

pub returns-else-from-count-clause-shown : goal.returns-else-from-count-clause-shown
returns-else-from-count-clause-shown c =
    let g = c.args.code.now.given in
    let rs = c.args.state.now.records in
    let l : length rs ≤ c.args.id.0 = omega (arith, c.if-from-count.false, c.from.ensures, c.count.ensures) in
    ap (shown_made g c.args.id) (sym (slice_get_past rs c.args.id.0 l)) ∙ sym (record_found g c.args.id rs)

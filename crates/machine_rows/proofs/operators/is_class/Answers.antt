use Rattle.std.proofs.Common.{◌≡◌, ◌==◌, Some, ap, ◌∙◌}
use Rattle.value_ops.specs.declared.values.ClassId.{ClassId}
use Rattle.cell_store.specs.Words as word
use Rattle.record_store.specs.Records.{record_at}
use Rattle.stack_code.specs.CodeView.{class_place}
use Rattle.stack_code.specs.Doing.{go_on, is_of_class}
use Rattle.machine_rows.specs.Seen.{machine_of}
use Rattle.machine_rows.proofs.Tops.{reference_found}
use Rattle.machine_rows.proofs.Recorded.{no_record_comes, class_found, class_comes}
use Rattle.machine_rows.proofs.operators.is_class.Goals as goal

pub reference-requires : goal.reference-requires
reference-requires g c = reference_found g.seen.code.given c.args.state.now.wide c.args.held (is_of_class (class_place g.seen.code.given c.args.class)) go_on (machine_of g.seen c.args.state.now c.args.held) c.requires.1.1

pub class_of-requires : goal.class_of-requires
class_of-requires g c = class_found g.seen c.args.state.now c.args.held c.args.class c.in-Some.record (c.reference.ensures ∙ ap (λ o. Some (word.Reference o)) c.in-Some.is) c.requires.1.1

pub returns-in-Some : goal.returns-in-Some
returns-in-Some g c =
    let s = c.args.state.now in
    let r = c.in-Some.record in
    let same : c.eq.result ≡ ((record_at s.records r).class.0 == c.args.class.0) = c.eq.ensures ∙ ap (λ (k : ClassId). k.0 == c.args.class.0) c.class_of.ensures in
    class_comes g.seen s c.args.held c.args.class r c.eq.result c.logical.result c.requires.0 c.requires.1.0 (c.reference.ensures ∙ ap (λ o. Some (word.Reference o)) c.in-Some.is) c.requires.1.1 same c.logical.ensures.word

pub returns-in-None : goal.returns-in-None
returns-in-None g c = no_record_comes g.seen c.args.state.now c.args.held c.args.class c.requires.0 (c.reference.ensures ∙ ap (λ o. Some (word.Reference o)) c.in-None.is)

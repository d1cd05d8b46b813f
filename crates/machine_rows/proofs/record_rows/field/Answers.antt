use Rattle.std.proofs.Common.{sym, ap, ◌∙◌, subst}
use Rattle.machine_rows.specs.Seen.{Comes, IsClear, machine_of, use_of}
use Rattle.machine_rows.proofs.Fields.{placed, field_wanted, field_reference, field_row_is, has_field, field_is}
use Rattle.machine_rows.proofs.record_rows.field.Goals as goal

pub wanted-purpose-requires : goal.wanted-purpose-requires
wanted-purpose-requires g c = field_wanted g.seen c.args.state.now c.args.class c.args.position c.args.mode c.args.held c.requires.0 c.requires.1.1

pub reference-record-requires : goal.reference-record-requires
reference-record-requires g c = field_reference g.seen c.args.state.now c.args.class c.args.position c.args.mode c.args.held c.wanted-purpose.result c.requires.0 c.wanted-purpose.ensures c.requires.1.1

pub place_of-requires : goal.place_of-requires
place_of-requires g c =
    let s = c.args.state.now in
    let p = c.wanted-purpose.result in
    let r = c.reference-record.result in
    has_field g.seen s c.args.class c.args.position (use_of p) r c.args.held c.requires.0 c.requires.1.0
    (subst IsClear (field_row_is g.seen s c.args.class c.args.position c.args.mode c.args.held r p c.requires.0 c.wanted-purpose.ensures c.reference-record.ensures) c.requires.1.1)

pub returns-in-Ok : goal.returns-in-Ok
returns-in-Ok g c =
    let s = c.args.state.now in
    let p = c.wanted-purpose.result in
    let r = c.reference-record.result in
    let h = c.args.held in
    let is = field_row_is g.seen s c.args.class c.args.position c.args.mode c.args.held r p c.requires.0 c.wanted-purpose.ensures c.reference-record.ensures in
    let placed_is = is ∙ field_is g.seen s c.args.class c.args.position p r h c.requires.0 c.requires.1.0 (subst IsClear is c.requires.1.1) ∙ ap (placed g.seen s c.args.class c.args.position p (machine_of g.seen s h)) (sym c.in-Ok.ensures.answer) in
    subst (Comes g.seen c.variable_in_field.new.state h c.variable_in_field.result) (sym placed_is) (c.variable_in_field.ensures g.seen h c.requires.0)

pub returns-in-Err : goal.returns-in-Err
returns-in-Err g c =
    let s = c.args.state.now in
    let p = c.wanted-purpose.result in
    let r = c.reference-record.result in
    let h = c.args.held in
    let is = field_row_is g.seen s c.args.class c.args.position c.args.mode c.args.held r p c.requires.0 c.wanted-purpose.ensures c.reference-record.ensures in
    let placed_is = is ∙ field_is g.seen s c.args.class c.args.position p r h c.requires.0 c.requires.1.0 (subst IsClear is c.requires.1.1) ∙ ap (placed g.seen s c.args.class c.args.position p (machine_of g.seen s h)) (sym c.in-Err.ensures.answer) in
    record { is = placed_is; stands = c.requires.0 }

use Rattle.std.proofs.Common.{rules, ◌≡◌, w32, FitsSigned, to_z, of_z, ap, ◌∙◌}
use Rattle.std.specs.Prelude.{Ok, Err}
use Rattle.std.proofs.lemmas.Int.{to_z-of_z}
use Rattle.machine_rows.specs.Widths.{widths_for}
use Rattle.program_meaning.specs.Widths.{pieces_of}
use Rattle.machine_rows.proofs.Printing.{tells_on, tells_halt}
use Rattle.machine_rows.proofs.WriteRows.{now_there, prints, refuses}
use Rattle.machine_rows.proofs.editing.write.Goals as goal

pub widths_now-columns-requires : goal.widths_now-columns-requires
widths_now-columns-requires g c = now_there g.seen c.args.state.now c.args.held c.requires.0 c.args.first c.args.position c.held_value-value.result c.held_value-value.ensures c.requires.1

pub returns-in-Ok-print : goal.returns-in-Ok-print
returns-in-Ok-print g c =
    let s = c.args.state.now in
    let x = c.held_value-value.result in
    let w = c.in-Ok.widths in
    let r = c.widths_now-columns.result in
    let columns : FitsSigned w32 r.0 = search rules in
    let blanks : FitsSigned w32 r.1 = search rules in
    let is : Ok w ≡ widths_for x r.0 r.1 = c.in-Ok.ensures ∙ ap (λ n. widths_for x n (to_z w32 (of_z w32 r.1))) (to_z-of_z w32 r.0 columns) ∙ ap (widths_for x r.0) (to_z-of_z w32 r.1 blanks) in
    tells_on g.seen s c.args.held _ (pieces_of c.args.first x w) c.print.new.printer
    (prints g.seen s c.args.held c.requires.0 c.args.first c.args.position x c.widths_now-columns.result w c.held_value-value.ensures c.widths_now-columns.ensures is)
    c.requires.0 c.in-Ok-print.ensures.limit (c.in-Ok-print.ensures.printed g.seen.pieces c.requires.0.printed) (c.in-Ok-print.ensures.answer g.seen.pieces c.requires.0.printed)

pub returns-in-Err-print : goal.returns-in-Err-print
returns-in-Err-print g c =
    let s = c.args.state.now in
    let x = c.held_value-value.result in
    let w = c.in-Ok.widths in
    let r = c.widths_now-columns.result in
    let columns : FitsSigned w32 r.0 = search rules in
    let blanks : FitsSigned w32 r.1 = search rules in
    let is : Ok w ≡ widths_for x r.0 r.1 = c.in-Ok.ensures ∙ ap (λ n. widths_for x n (to_z w32 (of_z w32 r.1))) (to_z-of_z w32 r.0 columns) ∙ ap (widths_for x r.0) (to_z-of_z w32 r.1 blanks) in
    tells_halt g.seen s c.args.held _ (pieces_of c.args.first x w) c.print.new.printer c.in-Err-print.limit
    (prints g.seen s c.args.held c.requires.0 c.args.first c.args.position x c.widths_now-columns.result w c.held_value-value.ensures c.widths_now-columns.ensures is)
    c.requires.0 c.in-Err-print.ensures.limit (c.in-Err-print.ensures.printed g.seen.pieces c.requires.0.printed) (c.in-Err-print.ensures.answer g.seen.pieces c.requires.0.printed)

pub returns-in-Err : goal.returns-in-Err
returns-in-Err g c =
    let x = c.held_value-value.result in
    let r = c.widths_now-columns.result in
    let columns : FitsSigned w32 r.0 = search rules in
    let blanks : FitsSigned w32 r.1 = search rules in
    let is : Err c.in-Err.fault ≡ widths_for x r.0 r.1 = c.in-Err.ensures ∙ ap (λ n. widths_for x n (to_z w32 (of_z w32 r.1))) (to_z-of_z w32 r.0 columns) ∙ ap (widths_for x r.0) (to_z-of_z w32 r.1 blanks) in
    refuses g.seen c.args.state.now c.args.held c.requires.0 c.args.first c.args.position c.held_value-value.result c.widths_now-columns.result c.in-Err.fault c.held_value-value.ensures c.widths_now-columns.ensures is

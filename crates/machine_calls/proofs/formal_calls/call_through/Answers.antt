use Rattle.std.proofs.Common.{refl, sym, ap, ◌∙◌, subst}
use Rattle.std.specs.Prelude.{IsSome, slice_index_or}
use Rattle.cell_store.specs.declared.cells.Procedure.{Procedure}
use Rattle.stack_code.specs.CodeView.{CodeView}
use Rattle.machine_rows.specs.Seen.{IsClear, machine_of}
use Rattle.machine_calls.specs.Found as found
use Rattle.machine_rows.specs.Rows.{Goes, Lands}
use Rattle.machine_calls.proofs.Compared.{call_is}
use Rattle.machine_calls.proofs.Preparing.{through_there, the_procedure}
use Rattle.machine_calls.proofs.formal_calls.call_through.Goals as goal

pub procedure_out-procedure-requires : goal.procedure_out-procedure-requires
procedure_out-procedure-requires g c =
    let is = call_is g.seen.code.added c.args.call c.call.result.now c.requires.1.1.1.1.0 (c.call.ensures ∙ ap (λ (x : CodeView). slice_index_or x.added.calls c.args.call c.call.result.now) (sym c.requires.1.0.code)) in
    let t = through_there g.seen c.args.state.now c.args.held c.requires.0 c.args.call c.call.result.now is c.args.site c.requires.1.1.1.1.1.0 in
    rw c.source.ensures (subst (λ o. IsSome (found.procedure_in o)) (sym t.1) refl)

pub call_procedure-requires : goal.call_procedure-requires
call_procedure-requires g c =
    let is = call_is g.seen.code.added c.args.call c.call.result.now c.requires.1.1.1.1.0 (c.call.ensures ∙ ap (λ (x : CodeView). slice_index_or x.added.calls c.args.call c.call.result.now) (sym c.requires.1.0.code)) in
    let t = through_there g.seen c.args.state.now c.args.held c.requires.0 c.args.call c.call.result.now is c.args.site c.requires.1.1.1.1.1.0 in
    let row = t.2 ∙ ap (λ (p : Procedure). found.call_row g.seen c.args.site p (machine_of g.seen c.args.state.now c.args.held)) (the_procedure (found.source_out c.args.state.now.store c.call.result.now.source) t.0 c.procedure_out-procedure.result t.1 (rw c.source.ensures at c.procedure_out-procedure.ensures)) in
    (c.requires.0, (c.requires.1.0, (c.requires.1.1.0, (c.requires.1.1.1.0, (subst IsClear row c.requires.1.1.1.1.1.0, (subst (Lands g.seen) row c.requires.1.1.1.1.1.1, tt))))))

pub returns : goal.returns
returns g c =
    let is = call_is g.seen.code.added c.args.call c.call.result.now c.requires.1.1.1.1.0 (c.call.ensures ∙ ap (λ (x : CodeView). slice_index_or x.added.calls c.args.call c.call.result.now) (sym c.requires.1.0.code)) in
    let t = through_there g.seen c.args.state.now c.args.held c.requires.0 c.args.call c.call.result.now is c.args.site c.requires.1.1.1.1.1.0 in
    let row = t.2 ∙ ap (λ (p : Procedure). found.call_row g.seen c.args.site p (machine_of g.seen c.args.state.now c.args.held)) (the_procedure (found.source_out c.args.state.now.store c.call.result.now.source) t.0 c.procedure_out-procedure.result t.1 (rw c.source.ensures at c.procedure_out-procedure.ensures)) in
    subst (Goes g.seen c.call_procedure.new.state c.args.held c.call_procedure.result) (sym row) c.call_procedure.ensures

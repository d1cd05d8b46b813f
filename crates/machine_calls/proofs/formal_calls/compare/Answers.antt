use Rattle.std.proofs.Common.{refl, sym, ap, ◌∙◌, subst}
use Rattle.std.specs.Prelude.{IsSome, slice_index_or}
use Rattle.cell_store.specs.declared.cells.Wide.TheVariants as wide
use Rattle.stack_code.specs.CodeView.{CodeView}
use Rattle.machine_rows.specs.Seen.{IsClear}
use Rattle.machine_rows.specs.Rows.{Goes, Lands}
use Rattle.machine_calls.proofs.Compared.{call_is, called_there, called_by, called_row, called_one}
use Rattle.machine_calls.proofs.Named.{source_thunk_fits}
use Rattle.machine_calls.proofs.formal_calls.compare.Goals as goal

pub source_out-requires : goal.source_out-requires
source_out-requires g c =
    let is = call_is g.seen.code.added c.args.call c.call-call.result.now c.requires.1.1.1.1.0 (c.call-call.ensures ∙ ap (λ (x : CodeView). slice_index_or x.added.calls c.args.call c.call-call.result.now) (sym c.requires.1.0.code)) in
    rw c.source.ensures (subst (λ o. IsSome o) (sym (called_there g.seen c.args.state.now c.args.held c.requires.0 c.args.call c.call-call.result.now is c.requires.1.1.1.1.1.0).1) refl)

pub compare_procedure-requires : goal.compare_procedure-requires
compare_procedure-requires g c =
    let is = call_is g.seen.code.added c.args.call c.call-call.result.now c.requires.1.1.1.1.0 (c.call-call.ensures ∙ ap (λ (x : CodeView). slice_index_or x.added.calls c.args.call c.call-call.result.now) (sym c.requires.1.0.code)) in
    let there = called_by g.seen c.args.state.now c.args.held c.requires.0 c.args.call c.call-call.result.now is c.source_out.result c.in-Some.called (wide.Procedure c.in-Procedure.procedure) (rw c.source.ensures at c.source_out.ensures) c.in-Some.is c.in-Procedure.is in
    let row = called_row g.seen c.args.state.now c.args.held c.requires.0 c.args.call c.call-call.result.now is (wide.Procedure c.in-Procedure.procedure) there in
    (c.requires.0, (c.requires.1.0.code, (c.requires.1.1.0, (c.requires.1.1.1.0, subst IsClear row c.requires.1.1.1.1.1.0))))

pub compare_thunk-requires : goal.compare_thunk-requires
compare_thunk-requires g c =
    let is = call_is g.seen.code.added c.args.call c.call-call.result.now c.requires.1.1.1.1.0 (c.call-call.ensures ∙ ap (λ (x : CodeView). slice_index_or x.added.calls c.args.call c.call-call.result.now) (sym c.requires.1.0.code)) in
    let there = called_by g.seen c.args.state.now c.args.held c.requires.0 c.args.call c.call-call.result.now is c.source_out.result c.in-Some.called (wide.Thunk c.in-Thunk.thunk) (rw c.source.ensures at c.source_out.ensures) c.in-Some.is c.in-Thunk.is in
    let row = called_row g.seen c.args.state.now c.args.held c.requires.0 c.args.call c.call-call.result.now is (wide.Thunk c.in-Thunk.thunk) there in
    (c.requires.0, (c.requires.1.0.steps, (source_thunk_fits g.seen.code.given c.args.state.now.store c.call-call.result.now.source c.in-Thunk.thunk c.requires.0.kinds.cells there, (subst IsClear row c.requires.1.1.1.1.1.0, subst (Lands g.seen) row c.requires.1.1.1.1.1.1))))

pub returns-in-Procedure : goal.returns-in-Procedure
returns-in-Procedure g c =
    let is = call_is g.seen.code.added c.args.call c.call-call.result.now c.requires.1.1.1.1.0 (c.call-call.ensures ∙ ap (λ (x : CodeView). slice_index_or x.added.calls c.args.call c.call-call.result.now) (sym c.requires.1.0.code)) in
    let there = called_by g.seen c.args.state.now c.args.held c.requires.0 c.args.call c.call-call.result.now is c.source_out.result c.in-Some.called (wide.Procedure c.in-Procedure.procedure) (rw c.source.ensures at c.source_out.ensures) c.in-Some.is c.in-Procedure.is in
    let row = called_row g.seen c.args.state.now c.args.held c.requires.0 c.args.call c.call-call.result.now is (wide.Procedure c.in-Procedure.procedure) there in
    subst (Goes g.seen c.args.state.now c.args.held c.compare_procedure.result) (sym row) c.compare_procedure.ensures

pub returns-in-Thunk : goal.returns-in-Thunk
returns-in-Thunk g c =
    let is = call_is g.seen.code.added c.args.call c.call-call.result.now c.requires.1.1.1.1.0 (c.call-call.ensures ∙ ap (λ (x : CodeView). slice_index_or x.added.calls c.args.call c.call-call.result.now) (sym c.requires.1.0.code)) in
    let there = called_by g.seen c.args.state.now c.args.held c.requires.0 c.args.call c.call-call.result.now is c.source_out.result c.in-Some.called (wide.Thunk c.in-Thunk.thunk) (rw c.source.ensures at c.source_out.ensures) c.in-Some.is c.in-Thunk.is in
    let row = called_row g.seen c.args.state.now c.args.held c.requires.0 c.args.call c.call-call.result.now is (wide.Thunk c.in-Thunk.thunk) there in
    subst (Goes g.seen c.compare_thunk.new.state c.args.held c.compare_thunk.result) (sym row) c.compare_thunk.ensures

pub unreachable-requires : goal.unreachable-requires
unreachable-requires g c =
    let is = call_is g.seen.code.added c.args.call c.call-call.result.now c.requires.1.1.1.1.0 (c.call-call.ensures ∙ ap (λ (x : CodeView). slice_index_or x.added.calls c.args.call c.call-call.result.now) (sym c.requires.1.0.code)) in
    called_one g.seen c.args.state.now c.args.held c.requires.0 c.args.call c.call-call.result.now is c.requires.1.1.1.1.1.0 c.source_out.result (rw c.source.ensures at c.source_out.ensures) (λ p q. absurd (cc (c.in_default.is, q))) (λ t q. absurd (cc (c.in_default.is, q)))

pub unreachable-requires-in_default-called : goal.unreachable-requires-in_default-called
unreachable-requires-in_default-called g c =
    let is = call_is g.seen.code.added c.args.call c.call-call.result.now c.requires.1.1.1.1.0 (c.call-call.ensures ∙ ap (λ (x : CodeView). slice_index_or x.added.calls c.args.call c.call-call.result.now) (sym c.requires.1.0.code)) in
    called_one g.seen c.args.state.now c.args.held c.requires.0 c.args.call c.call-call.result.now is c.requires.1.1.1.1.1.0 c.source_out.result (rw c.source.ensures at c.source_out.ensures) (λ p q. c.in_default-called.not-Procedure p (cc (c.in-Some.is, q))) (λ t q. c.in_default-called.not-Thunk t (cc (c.in-Some.is, q)))

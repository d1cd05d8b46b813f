use Rattle.std.proofs.Common.{◌<◌, length, refl, sym, ap, ◌∙◌, subst}
use Rattle.std.specs.Prelude.{IsSome, slice_index_or}
use Rattle.stack_code.specs.declared.heads.Reading.{Reading}
use Rattle.stack_code.specs.CodeView.{CodeView}
use Rattle.stack_code.specs.Limits.{FormalTypeRuns, ReadingRuns}
use Rattle.machine_rows.specs.Seen.{IsClear}
use Rattle.machine_calls.specs.Found as found
use Rattle.machine_rows.specs.Rows.{Goes, Lands}
use Rattle.machine_calls.proofs.Compared.{call_is}
use Rattle.machine_calls.proofs.Preparing.{prepared, prepared_formal, prepared_text, prepared_by}
use Rattle.machine_calls.proofs.formal_calls.prepare.Goals as goal

pub actual_head-head-requires : goal.actual_head-head-requires
actual_head-head-requires g c =
    let is = call_is g.seen.code.added c.args.call c.call-call.result.now c.requires.1.1.1.1.0.0 (c.call-call.ensures ∙ ap (λ (x : CodeView). slice_index_or x.added.calls c.args.call c.call-call.result.now) (sym c.requires.1.0.code)) in
    subst (λ z. c.args.formal < length z.heads) is c.requires.1.1.1.1.0.1

pub procedure_out-procedure-requires : goal.procedure_out-procedure-requires
procedure_out-procedure-requires g c =
    let is = call_is g.seen.code.added c.args.call c.call-call.result.now c.requires.1.1.1.1.0.0 (c.call-call.ensures ∙ ap (λ (x : CodeView). slice_index_or x.added.calls c.args.call c.call-call.result.now) (sym c.requires.1.0.code)) in
    rw c.source.ensures (subst (λ o. IsSome (found.procedure_in o)) (sym (prepared g.seen c.args.state.now c.args.held c.requires.0 c.args.call c.args.formal c.call-call.result.now is c.requires.1.1.1.1.1.0).source) refl)

pub formal_at-is-requires : goal.formal_at-is-requires
formal_at-is-requires g c =
    let is = call_is g.seen.code.added c.args.call c.call-call.result.now c.requires.1.1.1.1.0.0 (c.call-call.ensures ∙ ap (λ (x : CodeView). slice_index_or x.added.calls c.args.call c.call-call.result.now) (sym c.requires.1.0.code)) in
    prepared_formal g.seen c.args.state.now c.args.held c.requires.0 c.args.call c.args.formal c.call-call.result.now is c.requires.1.1.1.1.1.0 c.args.given.now.code.now c.requires.1.0.code c.procedure_out-procedure.result (rw c.source.ensures at c.procedure_out-procedure.ensures)

pub text_at-requires : goal.text_at-requires
text_at-requires g c =
    let is = call_is g.seen.code.added c.args.call c.call-call.result.now c.requires.1.1.1.1.0.0 (c.call-call.ensures ∙ ap (λ (x : CodeView). slice_index_or x.added.calls c.args.call c.call-call.result.now) (sym c.requires.1.0.code)) in
    prepared_text g.seen c.args.state.now c.args.held c.requires.0 c.args.call c.args.formal c.call-call.result.now is c.requires.1.1.1.1.1.0 c.args.given.now.code.now c.requires.1.0.code c.procedure_out-procedure.result (rw c.source.ensures at c.procedure_out-procedure.ensures) c.actual_head-head.result c.actual_head-head.ensures

pub prepare_phrase-requires : goal.prepare_phrase-requires
prepare_phrase-requires g c =
    let is = call_is g.seen.code.added c.args.call c.call-call.result.now c.requires.1.1.1.1.0.0 (c.call-call.ensures ∙ ap (λ (x : CodeView). slice_index_or x.added.calls c.args.call c.call-call.result.now) (sym c.requires.1.0.code)) in
    let row = prepared_by g.seen c.args.state.now c.args.held c.requires.0 c.args.call c.args.formal c.call-call.result.now is c.requires.1.1.1.1.1.0 c.args.given.now.code.now c.requires.1.0.code c.procedure_out-procedure.result (rw c.source.ensures at c.procedure_out-procedure.ensures) c.actual_head-head.result c.actual_head-head.ensures c.formal_at-is.result c.formal_at-is.ensures.is c.text_at.result c.text_at.ensures.is _ c.in-Phrase.is in (
      c.requires.0,
      (
        c.requires.1.0.code,
        (
          c.requires.1.1.0,
          (
            c.requires.1.1.1.0,
            (
              subst (λ (x : CodeView). FormalTypeRuns x.given c.formal_at-is.result) (sym c.requires.1.0.code) c.formal_at-is.ensures.fits,
              (subst (λ (r : Reading). ReadingRuns g.seen.code.given r) c.in-Phrase.is (subst (λ (x : CodeView). ReadingRuns x.given c.text_at.result.reading) (sym c.requires.1.0.code) c.text_at.ensures.fits), (subst IsClear row c.requires.1.1.1.1.1.0, subst (Lands g.seen) row c.requires.1.1.1.1.1.1)),
            ),
          ),
        ),
      ),
    )

pub prepare_name-requires : goal.prepare_name-requires
prepare_name-requires g c =
    let is = call_is g.seen.code.added c.args.call c.call-call.result.now c.requires.1.1.1.1.0.0 (c.call-call.ensures ∙ ap (λ (x : CodeView). slice_index_or x.added.calls c.args.call c.call-call.result.now) (sym c.requires.1.0.code)) in
    let row = prepared_by g.seen c.args.state.now c.args.held c.requires.0 c.args.call c.args.formal c.call-call.result.now is c.requires.1.1.1.1.1.0 c.args.given.now.code.now c.requires.1.0.code c.procedure_out-procedure.result (rw c.source.ensures at c.procedure_out-procedure.ensures) c.actual_head-head.result c.actual_head-head.ensures c.formal_at-is.result c.formal_at-is.ensures.is c.text_at.result c.text_at.ensures.is _ c.in-Name.is in
    (c.requires.0, (c.requires.1.1.0, (c.requires.1.1.1.0, (subst (λ (x : CodeView). FormalTypeRuns x.given c.formal_at-is.result) (sym c.requires.1.0.code) c.formal_at-is.ensures.fits, (subst IsClear row c.requires.1.1.1.1.1.0, subst (Lands g.seen) row c.requires.1.1.1.1.1.1)))))

pub enter_aside-requires : goal.enter_aside-requires
enter_aside-requires g c =
    let is = call_is g.seen.code.added c.args.call c.call-call.result.now c.requires.1.1.1.1.0.0 (c.call-call.ensures ∙ ap (λ (x : CodeView). slice_index_or x.added.calls c.args.call c.call-call.result.now) (sym c.requires.1.0.code)) in
    let row = prepared_by g.seen c.args.state.now c.args.held c.requires.0 c.args.call c.args.formal c.call-call.result.now is c.requires.1.1.1.1.1.0 c.args.given.now.code.now c.requires.1.0.code c.procedure_out-procedure.result (rw c.source.ensures at c.procedure_out-procedure.ensures) c.actual_head-head.result c.actual_head-head.ensures c.formal_at-is.result c.formal_at-is.ensures.is c.text_at.result c.text_at.ensures.is _ c.in-Subarray.is in
    (c.requires.0, (c.requires.1.1.0, (c.requires.1.1.1.0, (tt, (subst IsClear row c.requires.1.1.1.1.1.0, subst (Lands g.seen) row c.requires.1.1.1.1.1.1)))))

pub prepare_nothing-requires : goal.prepare_nothing-requires
prepare_nothing-requires g c =
    let is = call_is g.seen.code.added c.args.call c.call-call.result.now c.requires.1.1.1.1.0.0 (c.call-call.ensures ∙ ap (λ (x : CodeView). slice_index_or x.added.calls c.args.call c.call-call.result.now) (sym c.requires.1.0.code)) in
    let row = prepared_by g.seen c.args.state.now c.args.held c.requires.0 c.args.call c.args.formal c.call-call.result.now is c.requires.1.1.1.1.1.0 c.args.given.now.code.now c.requires.1.0.code c.procedure_out-procedure.result (rw c.source.ensures at c.procedure_out-procedure.ensures) c.actual_head-head.result c.actual_head-head.ensures c.formal_at-is.result c.formal_at-is.ensures.is c.text_at.result c.text_at.ensures.is _ c.in-Nothing.is in
    (c.requires.0, (c.requires.1.1.0, (c.requires.1.1.1.0, (subst (λ (x : CodeView). FormalTypeRuns x.given c.formal_at-is.result) (sym c.requires.1.0.code) c.formal_at-is.ensures.fits, (subst IsClear row c.requires.1.1.1.1.1.0, subst (Lands g.seen) row c.requires.1.1.1.1.1.1)))))

pub returns-in-Phrase : goal.returns-in-Phrase
returns-in-Phrase g c =
    let is = call_is g.seen.code.added c.args.call c.call-call.result.now c.requires.1.1.1.1.0.0 (c.call-call.ensures ∙ ap (λ (x : CodeView). slice_index_or x.added.calls c.args.call c.call-call.result.now) (sym c.requires.1.0.code)) in
    let row = prepared_by g.seen c.args.state.now c.args.held c.requires.0 c.args.call c.args.formal c.call-call.result.now is c.requires.1.1.1.1.1.0 c.args.given.now.code.now c.requires.1.0.code c.procedure_out-procedure.result (rw c.source.ensures at c.procedure_out-procedure.ensures) c.actual_head-head.result c.actual_head-head.ensures c.formal_at-is.result c.formal_at-is.ensures.is c.text_at.result c.text_at.ensures.is _ c.in-Phrase.is in
    subst (Goes g.seen c.prepare_phrase.new.state c.args.held c.prepare_phrase.result) (sym row) c.prepare_phrase.ensures

pub returns-in-Name : goal.returns-in-Name
returns-in-Name g c =
    let is = call_is g.seen.code.added c.args.call c.call-call.result.now c.requires.1.1.1.1.0.0 (c.call-call.ensures ∙ ap (λ (x : CodeView). slice_index_or x.added.calls c.args.call c.call-call.result.now) (sym c.requires.1.0.code)) in
    let row = prepared_by g.seen c.args.state.now c.args.held c.requires.0 c.args.call c.args.formal c.call-call.result.now is c.requires.1.1.1.1.1.0 c.args.given.now.code.now c.requires.1.0.code c.procedure_out-procedure.result (rw c.source.ensures at c.procedure_out-procedure.ensures) c.actual_head-head.result c.actual_head-head.ensures c.formal_at-is.result c.formal_at-is.ensures.is c.text_at.result c.text_at.ensures.is _ c.in-Name.is in
    subst (Goes g.seen c.prepare_name.new.state c.args.held c.prepare_name.result) (sym row) c.prepare_name.ensures

pub returns-in-Subarray : goal.returns-in-Subarray
returns-in-Subarray g c =
    let is = call_is g.seen.code.added c.args.call c.call-call.result.now c.requires.1.1.1.1.0.0 (c.call-call.ensures ∙ ap (λ (x : CodeView). slice_index_or x.added.calls c.args.call c.call-call.result.now) (sym c.requires.1.0.code)) in
    let row = prepared_by g.seen c.args.state.now c.args.held c.requires.0 c.args.call c.args.formal c.call-call.result.now is c.requires.1.1.1.1.1.0 c.args.given.now.code.now c.requires.1.0.code c.procedure_out-procedure.result (rw c.source.ensures at c.procedure_out-procedure.ensures) c.actual_head-head.result c.actual_head-head.ensures c.formal_at-is.result c.formal_at-is.ensures.is c.text_at.result c.text_at.ensures.is _ c.in-Subarray.is in
    subst (Goes g.seen c.enter_aside.new.state c.args.held c.enter_aside.result) (sym row) c.enter_aside.ensures

pub returns-in-Nothing : goal.returns-in-Nothing
returns-in-Nothing g c =
    let is = call_is g.seen.code.added c.args.call c.call-call.result.now c.requires.1.1.1.1.0.0 (c.call-call.ensures ∙ ap (λ (x : CodeView). slice_index_or x.added.calls c.args.call c.call-call.result.now) (sym c.requires.1.0.code)) in
    let row = prepared_by g.seen c.args.state.now c.args.held c.requires.0 c.args.call c.args.formal c.call-call.result.now is c.requires.1.1.1.1.1.0 c.args.given.now.code.now c.requires.1.0.code c.procedure_out-procedure.result (rw c.source.ensures at c.procedure_out-procedure.ensures) c.actual_head-head.result c.actual_head-head.ensures c.formal_at-is.result c.formal_at-is.ensures.is c.text_at.result c.text_at.ensures.is _ c.in-Nothing.is in
    subst (Goes g.seen c.prepare_nothing.new.state c.args.held c.prepare_nothing.result) (sym row) c.prepare_nothing.ensures

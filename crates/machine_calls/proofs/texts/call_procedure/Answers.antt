use Rattle.std.proofs.Common.{◌≡◌, ◌-◌, ◌++◌, ◌∷◌, [], ◌≤◌, Some, length, sym, ap, ◌∙◌, subst, arith, length-append}
use Rattle.std.specs.Prelude.{Err, IfSome}
use Rattle.cell_store.specs.declared.entries.Entry.TheVariants as entry
use Rattle.cell_store.specs.Stores.{Store}
use Rattle.name_thunks.specs.Links.{outwards}
use Rattle.stack_code.specs.CodeView.{CodeView}
use Rattle.stack_code.specs.Limits.{ProcedureRuns}
use Rattle.machine_rows.specs.declared.state.State.{State}
use Rattle.machine_calls.specs.Found as found
use Rattle.machine_calls.proofs.Uses.{step_answer}
use Rattle.machine_calls.proofs.Calling.{call_refused, call_below, call_within, call_room, call_done}
use Rattle.machine_calls.proofs.texts.call_procedure.Goals as goal

pub enter_by-requires-clause-way : goal.enter_by-requires-clause-way
enter_by-requires-clause-way g c = subst (λ (z : State). IfSome c.args.links (λ n. outwards z.store.frames z.store.current n ≡ Some c.args.procedure.link)) (sym c.in_default.ensures.stepped) c.requires.1.1.1.1.1.1

pub enter_by-requires-clause-below : goal.enter_by-requires-clause-below
enter_by-requires-clause-below g c =
    let is : found.procedure_at g.seen.code c.args.procedure.head ≡ Some c.procedure_at.result.now = ap (λ (x : CodeView). found.procedure_at x c.args.procedure.head) c.requires.1.0.code ∙ c.procedure_at.ensures.is in
    call_below g.seen c.args.state.now c.args.held c.requires.0 c.args.site c.args.procedure c.procedure_at.result.now is (ap (λ n. step_answer c.args.state.now.steps n) c.requires.1.0.steps ∙ sym c.tick.ensures.answer ∙ c.in_default.is) c.requires.1.1.1.1.0 c.tick.new.state c.args.links c.in_default.ensures.stepped

pub unreachable-requires : goal.unreachable-requires
unreachable-requires g c =
    let is : found.procedure_at g.seen.code c.args.procedure.head ≡ Some c.procedure_at.result.now = ap (λ (x : CodeView). found.procedure_at x c.args.procedure.head) c.requires.1.0.code ∙ c.procedure_at.ensures.is in
    call_refused g.seen c.args.state.now c.args.held c.requires.0 c.args.site c.args.procedure c.procedure_at.result.now is (ap (λ n. step_answer c.args.state.now.steps n) c.requires.1.0.steps ∙ sym c.tick.ensures.answer ∙ c.in_default.is) c.requires.1.1.1.1.0 c.tick.new.state c.args.pc c.saturating_sub-base.result c.in_default.ensures.stepped
    (sym c.enter_by.ensures.answer ∙ c.in-Err-NoRoom.is ∙ ap (λ z. Err z) c.in-Err-NoRoom.field-0-is)

pub enter_formals-requires-clause-room : goal.enter_formals-requires-clause-room
enter_formals-requires-clause-room g c =
    let is : found.procedure_at g.seen.code c.args.procedure.head ≡ Some c.procedure_at.result.now = ap (λ (x : CodeView). found.procedure_at x c.args.procedure.head) c.requires.1.0.code ∙ c.procedure_at.ensures.is in
    let room = call_room g.seen c.args.state.now c.args.held c.requires.0 c.args.site c.args.procedure c.procedure_at.result.now is (ap (λ n. step_answer c.args.state.now.steps n) c.requires.1.0.steps ∙ sym c.tick.ensures.answer ∙ c.in_default.is) c.requires.1.1.1.1.0 c.tick.new.state c.args.pc c.saturating_sub-base.result c.in_default.ensures.stepped (sym c.enter_by.ensures.answer ∙ c.in-Ok.is) in
    omega (arith, room, ap (λ (t : Store). length t.entries) c.in-Ok.ensures.entered, ap (λ (t : Store). t.entry_room) c.in-Ok.ensures.entered, ap (λ (z : State). length z.store.entries) c.in_default.ensures.stepped, ap (λ (z : State). z.store.entry_room) c.in_default.ensures.stepped, length-append c.tick.new.state.store.entries (entry.Call c.args.procedure.head c.args.site ∷ []), ap length c.as_slice-formals.ensures.value)

pub overflow_add-procedure : goal.overflow_add-procedure
overflow_add-procedure g c =
    let is : found.procedure_at g.seen.code c.args.procedure.head ≡ Some c.procedure_at.result.now = ap (λ (x : CodeView). found.procedure_at x c.args.procedure.head) c.requires.1.0.code ∙ c.procedure_at.ensures.is in
    omega (arith, c.requires.0.few, call_within g.seen c.args.state.now c.args.held c.requires.0 c.args.site c.args.procedure c.procedure_at.result.now is (ap (λ n. step_answer c.args.state.now.steps n) c.requires.1.0.steps ∙ sym c.tick.ensures.answer ∙ c.in_default.is) c.requires.1.1.1.1.0 c.tick.new.state c.args.pc c.saturating_sub-base.result c.in_default.ensures.stepped (sym c.enter_by.ensures.answer ∙ c.in-Ok.is) c.requires.1.1.1.1.1.0)

pub returns : goal.returns
returns g c =
    let is : found.procedure_at g.seen.code c.args.procedure.head ≡ Some c.procedure_at.result.now = ap (λ (x : CodeView). found.procedure_at x c.args.procedure.head) c.requires.1.0.code ∙ c.procedure_at.ensures.is in
    let s = c.args.state.now in
    let s1 = c.tick.new.state in
    let b = c.saturating_sub-base.result in
    let w = c.enter_by.new.self in
    let cells = ap (λ (z : State). length z.store.cells) c.in_default.ensures.stepped in
    let few : length s.store.cells ≤ 32768 = omega (arith, c.live.ensures.count, c.live.ensures.within, cells) in
    let base : b ≡ length s.store.cells - length c.procedure_at.result.now.formals.items = omega (arith, c.saturating_sub-base.ensures, c.live.ensures.count, cells, ap length c.as_slice-formals.ensures.value) in
    call_done g.seen c.args.state.now c.args.held c.requires.0 c.args.site c.args.procedure c.procedure_at.result.now is (ap (λ n. step_answer s.steps n) c.requires.1.0.steps ∙ sym c.tick.ensures.answer ∙ c.in_default.is) c.requires.1.1.1.1.0 s1 c.args.pc b c.in_default.ensures.stepped (sym c.enter_by.ensures.answer ∙ c.in-Ok.is)
    (subst (λ (x : CodeView). ProcedureRuns x.given c.procedure_at.result.now) (sym c.requires.1.0.code) c.procedure_at.ensures.fits) few c.requires.1.1.0 base w
    (cc (c.in-Ok.ensures.entered, c.current.ensures, c.entry_count.ensures)) c.enter_formals.new.state
    (c.enter_formals.ensures ∙ ap (λ l. record s1 { store = record w { entries = w.entries ++ found.formal_entries b l } }) c.as_slice-formals.ensures.value) c.go_to.result c.go_to.ensures

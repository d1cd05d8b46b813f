use Rattle.std.proofs.Common.{sym, ap, ◌∙◌, subst, arith}
use Rattle.std.specs.Prelude.{Err}
use borrow.Enum.Total.{values_d}
use Rattle.cell_store.specs.contracts.entries.Refusal as the_refusal
use Rattle.cell_store.specs.declared.entries.Refusal.{Refusal}
use Rattle.value_ops.specs.declared.faults.Limit.{Limit}
use Rattle.value_ops.specs.declared.faults.Limit.TheVariants as limit
use Rattle.machine_rows.specs.declared.held.Halt.TheVariants as halt
use Rattle.machine_rows.specs.declared.next.Next.TheVariants as comes
use Rattle.machine_rows.specs.Rows.{Goes}
use Rattle.machine_calls.proofs.Thunks.{use_row}
use Rattle.machine_calls.proofs.Uses.{step_answer, use_stopped, use_unfit, use_limited, use_refused, use_within, use_done}
use Rattle.machine_calls.proofs.texts.use_thunk.Goals as goal

pub returns-in-Err : goal.returns-in-Err
returns-in-Err g c = use_stopped g.seen c.args.state.now c.args.held c.requires.0 c.args.back c.args.thunk c.args.purpose c.tick.new.state c.in-Err.halt
    (ap (λ n. step_answer c.args.state.now.steps n) c.requires.1.0 ∙ sym c.tick.ensures.answer ∙ c.in-Err.is) c.in-Err.ensures.unchanged

pub returns-then-not-may_use : goal.returns-then-not-may_use
returns-then-not-may_use g c = use_unfit g.seen c.args.state.now c.args.held c.requires.0 c.args.back c.args.thunk c.args.purpose
    (ap (λ n. step_answer c.args.state.now.steps n) c.requires.1.0 ∙ sym c.tick.ensures.answer ∙ c.in_default.is) (sym c.may_use.ensures ∙ c.if-not-may_use.true) c.tick.new.state c.in_default.ensures.stepped

pub overflow_add-thunk : goal.overflow_add-thunk
overflow_add-thunk g c =
    omega (arith, use_within g.seen c.args.state.now c.args.held c.requires.0 c.args.back c.args.thunk c.args.purpose (ap (λ n. step_answer c.args.state.now.steps n) c.requires.1.0 ∙ sym c.tick.ensures.answer ∙ c.in_default.is) (sym c.may_use.ensures ∙ c.if-not-may_use.false) c.requires.1.1.1.0 c.tick.new.state c.in_default.ensures.stepped (sym c.enter_thunk.ensures.answer ∙ c.in-Ok.is) c.requires.1.1.1.1, c.requires.0.few)

pub unreachable-requires : goal.unreachable-requires
unreachable-requires g c =
    use_refused g.seen c.args.state.now c.args.held c.requires.0 c.args.back c.args.thunk c.args.purpose (ap (λ n. step_answer c.args.state.now.steps n) c.requires.1.0 ∙ sym c.tick.ensures.answer ∙ c.in_default.is) (sym c.may_use.ensures ∙ c.if-not-may_use.false) c.requires.1.1.1.0 c.tick.new.state c.in_default.ensures.stepped (sym c.enter_thunk.ensures.answer ∙ c.in-Err-NoRoom.is ∙ ap (λ z. Err z) c.in-Err-NoRoom.field-0-is)

pub returns-in-Ok : goal.returns-in-Ok
returns-in-Ok g c =
    use_done g.seen c.args.state.now c.args.held c.requires.0 c.args.back c.args.thunk c.args.purpose (ap (λ n. step_answer c.args.state.now.steps n) c.requires.1.0 ∙ sym c.tick.ensures.answer ∙ c.in_default.is) (sym c.may_use.ensures ∙ c.if-not-may_use.false) c.requires.1.1.1.0 c.tick.new.state c.in_default.ensures.stepped (sym c.enter_thunk.ensures.answer ∙ c.in-Ok.is) c.requires.1.1.0
    c.enter_thunk.new.store c.in-Ok.ensures.entered c.go_to.result c.go_to.ensures

pub returns-in-Err-Limit : goal.returns-in-Err-Limit
returns-in-Err-Limit g c =
    subst (λ (l : Limit). Goes g.seen (record c.tick.new.state { store = c.enter_thunk.new.store }) c.args.held (comes.Halted (halt.Limit l)) (use_row g.seen c.args.state.now c.args.held c.args.back c.args.thunk c.args.purpose)) (sym (ap (λ (z : Refusal). (values_d the_refusal.enum 0 (limit.Steps, tt) z).0) c.in-Err-Limit.field-0-is))
    (use_limited g.seen c.args.state.now c.args.held c.requires.0 c.args.back c.args.thunk c.args.purpose (ap (λ n. step_answer c.args.state.now.steps n) c.requires.1.0 ∙ sym c.tick.ensures.answer ∙ c.in_default.is) (sym c.may_use.ensures ∙ c.if-not-may_use.false) c.in-Err-Limit.limit c.tick.new.state c.enter_thunk.new.store c.in_default.ensures.stepped (sym c.enter_thunk.ensures.answer ∙ c.in-Err-Limit.is ∙ ap (λ z. Err z) c.in-Err-Limit.field-0-is) c.in-Err-Limit.ensures.unchanged)

use Rattle.std.proofs.Common.{◌++◌, ◌∷◌, [], ◌≤◌, length, take, ap, ◌∙◌, arith, length-append}
use Rattle.std.proofs.lemmas.List.{length-take-le}
use Rattle.machine_rows.specs.declared.state.State.{State}
use Rattle.machine_calls.specs.Found as found
use Rattle.machine_calls.proofs.Formals.{entered_count, entered_more}
use Rattle.machine_calls.proofs.texts.enter_formals.Goals as goal

pub enter-requires : goal.enter-requires
enter-requires c =
    let i = c.loop-formal.formal-index in
    let fs = c.args.formals.now in
    let entries = c.args.state.now.store.entries in
    let le : i ≤ length fs = omega arith in
    omega (arith, ap (λ (z : State). length z.store.entries) c.loop-formal.invariant.state, ap (λ (z : State). z.store.entry_room) c.loop-formal.invariant.state, length-append entries (found.formal_entries c.args.base (take i fs)), entered_count c.args.base (take i fs), length-take-le i fs le, c.requires.room, c.loop-formal-test.true)

pub loop-formal-preserved : goal.loop-formal-preserved
loop-formal-preserved c =
    let s = c.args.state.now in
    record {
      cell = omega (arith, c.loop-formal.invariant.cell);
      state =
          c.enter.ensures
          ∙ ap (λ (z : State). record z { store = record z.store { entries = z.store.entries ++ c.formal_entry.result ∷ [] } }) c.loop-formal.invariant.state
          ∙ ap (λ e. record s { store = record s.store { entries = (s.store.entries ++ found.formal_entries c.args.base (take c.loop-formal.formal-index c.args.formals.now)) ++ e ∷ [] } }) (c.formal_entry.ensures ∙ ap (found.formal_entry _) c.loop-formal.invariant.cell)
          ∙ ap (λ es. record s { store = record s.store { entries = es } }) (entered_more s.store.entries c.args.base c.loop-formal.formal-index c.args.formals.now _ c.loop-formal-test.true);
    }

use Rattle.std.proofs.Common.{ℕ, ◌+◌, ◌++◌, List, Option, length, sym, ◌∙◌, arith, subst}
use Rattle.std.specs.Io.KnownBytes.{Appends, prepend_known}
use Rattle.night_merge.specs.declared.plan.Entry.{Entry}
use Rattle.night_merge.specs.Joining.{IsWindow, joined}
use Rattle.night_merge.specs.Nights.{windows_joined}
use Rattle.night_merge.specs.Plan.{first_line, lines_behind}
use Rattle.night_merge.specs.Stops.{AgreeBefore, stop_unread}
use Rattle.night_merge.specs.Writing.{AppendsPrefix}
use Rattle.night_merge.proofs.Nights.{stopped}
use Rattle.night_merge.proofs.Reasons.{agree_window, unread_unnamed, unread_why}
use Rattle.night_merge.proofs.Results.{match_this, unread_fair}
use Rattle.night_merge.proofs.Windows.{StillWindows, agree_alone, agree_earlier, first_ends, first_said, next_window, no_other, window_cut, windows_begin, windows_cut, windows_end, windows_more}
use Rattle.night_merge.proofs.merging.write_windows.Goals as goal

-- ---- the loop

pub loop-number-preserved : goal.loop-number-preserved
loop-number-preserved g c = (
  omega (arith, c.loop-number.invariant.0, c.in_ok-entries-in-Window.ensures.few, c.len.ensures),
  c.write_window.auto.left ∙ c.loop-number.invariant.1,
  c.in_ok-entries-in-Window.ensures.kept ∙ c.loop-number.invariant.2,
  c.in_ok-write_window-in-Window.ensures.kept.0 ∙ c.loop-number.invariant.3,
  c.in_ok-write_window-in-Window.ensures.kept.1 ∙ c.loop-number.invariant.4,
  λ known e. c.in_ok-write_window-in-Window.ensures.stays known (c.loop-number.invariant.5 known e),
  λ windows stray more known seen rests balances small next there e has are.
      let s = c.loop-number.invariant.6 windows stray more known seen rests balances small next there e has are in
      let number = c.loop-number.number in
      let w = (next_window c.in-Window.own c.in-Window.is s).0 in
      let line = first_line (number + 1) w.more stray in
      let said = first_said (number + 1) w.more stray (omega (arith, c.loop-number-test.true)) small in
      let read = c.in_ok-entries-in-Window.ensures.entries w.entries line (lines_behind (number + 1) w.more stray ++ more) w.listed w.few said (first_ends (number + 1) w.more stray).0 w.there in
      let same = c.as_slice.ensures.value ∙ read.0 in
      let W : List Entry → Type 0 = λ es. IsWindow c.args.night.chains c.args.night.accounts.now known number es (rests number) (balances number) (balances (number + 1)) in
      let C : List Entry → Type 0 = λ es. Appends (g.K.Sink.written c.loop-number.sink) (g.K.Sink.written c.write_window.new.sink) (joined c.loop-number.first (rests number) es) in
      let F : ℕ → Type 0 =
      λ n. StillWindows c.args.night.chains c.args.night.accounts.now seen known rests balances windows stray more (number + 1) n c.in_ok-entries-in-Window.behind (prepend_known c.entries.new.self (g.P.Source.left c.entries.new.src)) c.write_window.new.left (g.K.Sink.written c.args.sink.now) (g.K.Sink.written c.write_window.new.sink) in
      subst F (omega (arith, c.len.ensures))
      (windows_more c.args.night.chains c.args.night.accounts.now seen known rests balances windows stray more number c.loop-number.first c.in_ok-entries-in-Window.behind _ _ c.loop-number.left c.write_window.new.left _ _ _ c.in_ok-entries-in-Window.entries.items w read.0 read.1 read.2
      (λ agree.
      let is = agree_window c.args.night.chains c.args.night.accounts.now seen known number w.entries (rests number) (balances number) (balances (number + 1)) agree w.is in
      let wrote = c.in_ok-write_window-in-Window.ensures.joined known (rests number) (balances number) (balances (number + 1)) (c.loop-number.invariant.5 known e) (w.has (agree_earlier seen known number agree)) (subst W (sym same) is) in
      (subst C same wrote.0, wrote.1))),
)

-- ---- where the listings are those of the night

pub returns-in_err-entries-in-Window-clause-joined : goal.returns-in_err-entries-in-Window-clause-joined
returns-in_err-entries-in-Window-clause-joined g c = λ windows stray more known rests balances few small next there e has are.
    let s = c.loop-number.invariant.6 windows stray more known known rests balances small next there e has are in
    let number = c.loop-number.number in
    let w = (next_window c.in-Window.own c.in-Window.is s).0 in
    let line = first_line (number + 1) w.more stray in
    let said = first_said (number + 1) w.more stray (omega (arith, c.loop-number-test.true)) small in
    match_this c.from_residual.result (stop_unread c.in_err-entries-in-Window.field-0.0) _ _ c.from_residual.ensures.1
    (unread_fair known c.in_err-entries-in-Window.field-0.0 (c.in_err-entries-in-Window.ensures.entries w.entries line (lines_behind (number + 1) w.more stray ++ more) w.listed w.few said (first_ends (number + 1) w.more stray).0 w.there), windows_cut s (agree_alone known number))

pub returns-in_err-write_window-in-Window-clause-joined : goal.returns-in_err-write_window-in-Window-clause-joined
returns-in_err-write_window-in-Window-clause-joined g c = λ windows stray more known rests balances few small next there e has are.
    let s = c.loop-number.invariant.6 windows stray more known known rests balances small next there e has are in
    let number = c.loop-number.number in
    let w = (next_window c.in-Window.own c.in-Window.is s).0 in
    let line = first_line (number + 1) w.more stray in
    let said = first_said (number + 1) w.more stray (omega (arith, c.loop-number-test.true)) small in
    let read = c.in_ok-entries-in-Window.ensures.entries w.entries line (lines_behind (number + 1) w.more stray ++ more) w.listed w.few said (first_ends (number + 1) w.more stray).0 w.there in
    let same = c.as_slice.ensures.value ∙ read.0 in
    let W : List Entry → Type 0 = λ es. IsWindow c.args.night.chains c.args.night.accounts.now known number es (rests number) (balances number) (balances (number + 1)) in
    let alone = agree_alone known number in
    let cut = c.in_err-write_window-in-Window.ensures.joined known (rests number) (balances number) (balances (number + 1)) (c.loop-number.invariant.5 known e) (w.has alone) (subst W (sym same) w.is) in
    let C : List Entry → Type 0 = λ es. AppendsPrefix (g.K.Sink.written c.loop-number.sink) (g.K.Sink.written c.write_window.new.sink) (joined c.loop-number.first (rests number) es) in
    match_this c.from_residual-in_err-write_window-in-Window.result c.in_err-write_window-in-Window.field-0.0 _ _ c.from_residual-in_err-write_window-in-Window.ensures.1
    (cut.1, window_cut _ w alone (subst C same cut.0))

pub returns-in-Stray-clause-joined : goal.returns-in-Stray-clause-joined
returns-in-Stray-clause-joined g c = λ windows stray more known rests balances few small next there e has are.
    let s = c.loop-number.invariant.6 windows stray more known known rests balances small next there e has are in
    windows_end rests balances windows c.in-Stray.count c.in-Stray.is s (agree_alone known c.loop-number.number)

pub returns-then-own-number-clause-joined : goal.returns-then-own-number-clause-joined
returns-then-own-number-clause-joined g c = λ windows stray more known rests balances few small next there e has are.
    let s = c.loop-number.invariant.6 windows stray more known known rests balances small next there e has are in
    absurd (c.if-own-number.true (next_window c.in-Window.own c.in-Window.is s).1)

pub returns-in_default-clause-joined : goal.returns-in_default-clause-joined
returns-in_default-clause-joined g c = λ windows stray more known rests balances few small next there e has are.
    let s = c.loop-number.invariant.6 windows stray more known known rests balances small next there e has are in
    absurd (no_other s c.in_default.not-Window c.in_default.not-Stray)

pub returns-clause-joined : goal.returns-clause-joined
returns-clause-joined g c = λ windows stray more known rests balances few small next there e has are.
    let s = c.loop-number.invariant.6 windows stray more known known rests balances small next there e has are in
    absurd (omega (arith, s.count, few, c.loop-number-test.false))

-- ---- why it stops

pub returns-in_err-entries-in-Window-clause-why : goal.returns-in_err-entries-in-Window-clause-why
returns-in_err-entries-in-Window-clause-why g c = λ windows stray more known seen rests balances few small next there e has are.
    let s = c.loop-number.invariant.6 windows stray more known seen rests balances small next there e has are in
    let number = c.loop-number.number in
    let w = (next_window c.in-Window.own c.in-Window.is s).0 in
    let line = first_line (number + 1) w.more stray in
    let said = first_said (number + 1) w.more stray (omega (arith, c.loop-number-test.true)) small in
    stopped c.from_residual.result (stop_unread c.in_err-entries-in-Window.field-0.0) _ c.from_residual.ensures.1
    (unread_why c.args.night.chains (length windows) seen known c.in_err-entries-in-Window.field-0.0 (c.in_err-entries-in-Window.ensures.entries w.entries line (lines_behind (number + 1) w.more stray ++ more) w.listed w.few said (first_ends (number + 1) w.more stray).0 w.there))

pub returns-in_err-write_window-in-Window-clause-why : goal.returns-in_err-write_window-in-Window-clause-why
returns-in_err-write_window-in-Window-clause-why g c = λ windows stray more known seen rests balances few small next there e has are.
    let s = c.loop-number.invariant.6 windows stray more known seen rests balances small next there e has are in
    let number = c.loop-number.number in
    let w = (next_window c.in-Window.own c.in-Window.is s).0 in
    let line = first_line (number + 1) w.more stray in
    let said = first_said (number + 1) w.more stray (omega (arith, c.loop-number-test.true)) small in
    let read = c.in_ok-entries-in-Window.ensures.entries w.entries line (lines_behind (number + 1) w.more stray ++ more) w.listed w.few said (first_ends (number + 1) w.more stray).0 w.there in
    let same = c.as_slice.ensures.value ∙ read.0 in
    let W : List Entry → Type 0 = λ es. IsWindow c.args.night.chains c.args.night.accounts.now seen number es (rests number) (balances number) (balances (number + 1)) in
    stopped c.from_residual-in_err-write_window-in-Window.result c.in_err-write_window-in-Window.field-0.0 _ c.from_residual-in_err-write_window-in-Window.ensures.1
    (c.in_err-write_window-in-Window.ensures.why known seen (rests number) (balances number) (balances (number + 1)) (length windows) (c.loop-number.invariant.5 known e) w.has (subst W (sym same) w.is) w.low (omega (arith, w.count)))

pub returns-then-own-number-clause-why : goal.returns-then-own-number-clause-why
returns-then-own-number-clause-why g c = λ windows stray more known seen rests balances few small next there e has are.
    let s = c.loop-number.invariant.6 windows stray more known seen rests balances small next there e has are in
    absurd (c.if-own-number.true (next_window c.in-Window.own c.in-Window.is s).1)

pub returns-in_default-clause-why : goal.returns-in_default-clause-why
returns-in_default-clause-why g c = λ windows stray more known seen rests balances few small next there e has are.
    let s = c.loop-number.invariant.6 windows stray more known seen rests balances small next there e has are in
    absurd (no_other s c.in_default.not-Window c.in_default.not-Stray)

pub returns-clause-why : goal.returns-clause-why
returns-clause-why g c = λ windows stray more known seen rests balances few small next there e has are.
    let s = c.loop-number.invariant.6 windows stray more known seen rests balances small next there e has are in
    absurd (omega (arith, s.count, few, c.loop-number-test.false))

-- ---- what is written where a part is named

pub returns-in_err-entries-in-Window-clause-named : goal.returns-in_err-entries-in-Window-clause-named
returns-in_err-entries-in-Window-clause-named g c = λ windows stray more known seen rests balances few small next there e has are.
    stopped c.from_residual.result (stop_unread c.in_err-entries-in-Window.field-0.0) _ c.from_residual.ensures.1 (λ part names agree. absurd (unread_unnamed c.in_err-entries-in-Window.field-0.0 part names))

pub returns-in_err-write_window-in-Window-clause-named : goal.returns-in_err-write_window-in-Window-clause-named
returns-in_err-write_window-in-Window-clause-named g c = λ windows stray more known seen rests balances few small next there e has are.
    let s = c.loop-number.invariant.6 windows stray more known seen rests balances small next there e has are in
    let number = c.loop-number.number in
    let w = (next_window c.in-Window.own c.in-Window.is s).0 in
    let line = first_line (number + 1) w.more stray in
    let said = first_said (number + 1) w.more stray (omega (arith, c.loop-number-test.true)) small in
    let read = c.in_ok-entries-in-Window.ensures.entries w.entries line (lines_behind (number + 1) w.more stray ++ more) w.listed w.few said (first_ends (number + 1) w.more stray).0 w.there in
    let same = c.as_slice.ensures.value ∙ read.0 in
    let W : List Entry → Type 0 = λ es. IsWindow c.args.night.chains c.args.night.accounts.now seen number es (rests number) (balances number) (balances (number + 1)) in
    let A : ℕ → Type 0 = λ n. AgreeBefore seen known n in
    let V : Option (List ℕ) → Type 0 = λ written. AppendsPrefix (g.K.Sink.written c.args.sink.now) written (windows_joined 1 1 rests windows) in
    stopped c.from_residual-in_err-write_window-in-Window.result c.in_err-write_window-in-Window.field-0.0 _ c.from_residual-in_err-write_window-in-Window.ensures.1
    (λ part names agree.
    let (own, nothing) = c.in_err-write_window-in-Window.ensures.named seen (rests number) (balances number) (balances (number + 1)) (subst W (sym same) w.is) part names in
    subst V (sym nothing) (windows_cut s (subst A own agree)))

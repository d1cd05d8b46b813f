use Rattle.std.proofs.Common.{◌≡◌, ℕ, ◌++◌, List, length, refl, ap, sym, ◌∙◌, arith, lit<, subst}
use Rattle.night_merge.specs.Closing.{HasLeft}
use Rattle.night_merge.specs.Nights.{left_in}
use Rattle.night_merge.specs.Plan.{first_line, lines_behind}
use Rattle.night_merge.specs.Stops.{IsWhy, stop_unread}
use Rattle.night_merge.specs.declared.plan.Line.TheVariants.{Night}
use Rattle.night_merge.specs.declared.stop.Stop.TheVariants.{WriteFault}
use Rattle.night_merge.proofs.Nights.{chains_are, closing_as, file_as, heading_cut, last_cut, last_on, left_begins, nothing_yet, opened_length, plan_ahead, prefix_so, stopped, windows_begun, windows_of, windows_on, wrote_so}
use Rattle.night_merge.proofs.Reasons.{fault_unnamed, fault_why, unread_unnamed, unread_why}
use Rattle.night_merge.proofs.Results.{fault_fair, match_map, unread_fair}
use Rattle.night_merge.proofs.Supplying.{written_back}
use Rattle.night_merge.proofs.Windows.{first_ends, first_said}
use Rattle.night_merge.proofs.merging.merge_night.Goals as goal

pub returns-in_err-chains-clause-cut : goal.returns-in_err-chains-clause-cut
returns-in_err-chains-clause-cut g c = λ plan more known rests left there shelf night.
    let bad = c.in_err-chains.ensures.line (Night plan.chains) _ night.few_chains (plan_ahead _ _ plan more c.in_ok-plan.ensures there) in
    stopped c.from_residual-in_err-chains.result (stop_unread c.in_err-chains.field-0.0) _ c.from_residual-in_err-chains.ensures.1
    (unread_fair known c.in_err-chains.field-0.0 bad, nothing_yet _ _, nothing_yet _ _)

pub returns-in_default : goal.returns-in_default
returns-in_default g c = record {
  done = λ plan more known rests left there shelf night. tt;
  cut = λ plan more known rests left there shelf night.
      absurd (c.in_default.not-Night plan.chains (c.in_ok-chains.ensures.line (Night plan.chains) _ night.few_chains (plan_ahead _ _ plan more c.in_ok-plan.ensures there)).0);
  why = λ plan more known seen rests left there shelf night.
      absurd (c.in_default.not-Night plan.chains (c.in_ok-chains.ensures.line (Night plan.chains) _ night.few_chains (plan_ahead _ _ plan more c.in_ok-plan.ensures there)).0);
  named = λ plan more known seen rests left there shelf night.
      absurd (c.in_default.not-Night plan.chains (c.in_ok-chains.ensures.line (Night plan.chains) _ night.few_chains (plan_ahead _ _ plan more c.in_ok-plan.ensures there)).0);
  kept = tt;
  read = λ other. absurd (cc other);
  write = λ other. absurd (cc other);
}

pub returns-then-chains-eq0-clause-cut : goal.returns-then-chains-eq0-clause-cut
returns-then-chains-eq0-clause-cut g c = λ plan more known rests left there shelf night.
    let read = c.in_ok-chains.ensures.line (Night plan.chains) _ night.few_chains (plan_ahead _ _ plan more c.in_ok-plan.ensures there) in
    let chains : c.in-Night.chains ≡ plan.chains = chains_are c.in-Night.chains plan.chains plan.chains _ c.in-Night.is read.0 refl in
    absurd (omega (arith, chains, c.if-chains-eq0.true, night.some_chain))

pub returns-in_err-accounts-clause-cut : goal.returns-in_err-accounts-clause-cut
returns-in_err-accounts-clause-cut g c = λ plan more known rests left there shelf night.
    let read = c.in_ok-chains.ensures.line (Night plan.chains) _ night.few_chains (plan_ahead _ _ plan more c.in_ok-plan.ensures there) in
    let said = first_said 1 plan.windows plan.stray (lit< tt) night.few_stray in
    let bad =
    c.in_err-accounts.ensures.accounts plan.accounts (first_line 1 plan.windows plan.stray) (lines_behind 1 plan.windows plan.stray ++ more) night.opened night.few_accounts said (first_ends 1 plan.windows plan.stray).1 read.1 in
    stopped c.from_residual-in_err-accounts.result (stop_unread c.in_err-accounts.field-0.0) _ c.from_residual-in_err-accounts.ensures.1
    (unread_fair known c.in_err-accounts.field-0.0 bad, nothing_yet _ _, nothing_yet _ _)

pub returns-in_err-write_all-clause-cut : goal.returns-in_err-write_all-clause-cut
returns-in_err-write_all-clause-cut g c = λ plan more known rests left there shelf night.
    stopped c.from_residual-in_err-write_all.result WriteFault _ c.from_residual-in_err-write_all.ensures.1
    (tt, heading_cut _ _ plan rests (left_in plan left) c.in_err-write_all.ensures.err, nothing_yet _ _)

pub returns-in_err-stray-clause-cut : goal.returns-in_err-stray-clause-cut
returns-in_err-stray-clause-cut g c = λ plan more known rests left there shelf night.
    let read = c.in_ok-chains.ensures.line (Night plan.chains) _ night.few_chains (plan_ahead _ _ plan more c.in_ok-plan.ensures there) in
    let said = first_said 1 plan.windows plan.stray (lit< tt) night.few_stray in
    let lines =
    c.in_ok-accounts.ensures.accounts plan.accounts (first_line 1 plan.windows plan.stray) (lines_behind 1 plan.windows plan.stray ++ more) night.opened night.few_accounts said (first_ends 1 plan.windows plan.stray).1 read.1 in
    let accounts : c.as_slice.result.now ≡ plan.accounts = c.as_slice.ensures.value ∙ lines.0 in
    let chains : c.in-Night.chains ≡ plan.chains = chains_are c.in-Night.chains plan.chains plan.chains _ c.in-Night.is read.0 refl in
    let has = left_begins c.as_slice.result.now plan.accounts c.as_mut_slice.result.now (left 1) accounts (c.as_mut_slice.ensures.value ∙ c.in_ok-left.ensures) night.opens in
    let windows = windows_of c.in-Night.chains plan.chains c.as_slice.result.now plan.accounts known rests left plan.windows chains accounts night.windows in
    let cut = c.in_err-stray.ensures.joined plan.windows plan.stray more known rests left night.few_windows night.few_stray lines.1 lines.2 shelf has windows in
    stopped c.from_residual-in_err-stray.result c.in_err-stray.field-0.0 _ c.from_residual-in_err-stray.ensures.1
    (cut.0, windows_begun _ _ _ plan rests (left_in plan left) c.in_ok-write_all.ensures.ok cut.1, nothing_yet _ _)

pub returns-clause-done : goal.returns-clause-done
returns-clause-done g c = λ plan more known rests left there shelf night.
    let read = c.in_ok-chains.ensures.line (Night plan.chains) _ night.few_chains (plan_ahead _ _ plan more c.in_ok-plan.ensures there) in
    let said = first_said 1 plan.windows plan.stray (lit< tt) night.few_stray in
    let lines =
    c.in_ok-accounts.ensures.accounts plan.accounts (first_line 1 plan.windows plan.stray) (lines_behind 1 plan.windows plan.stray ++ more) night.opened night.few_accounts said (first_ends 1 plan.windows plan.stray).1 read.1 in
    let accounts : c.as_slice.result.now ≡ plan.accounts = c.as_slice.ensures.value ∙ lines.0 in
    let chains : c.in-Night.chains ≡ plan.chains = chains_are c.in-Night.chains plan.chains plan.chains _ c.in-Night.is read.0 refl in
    let has = left_begins c.as_slice.result.now plan.accounts c.as_mut_slice.result.now (left 1) accounts (c.as_mut_slice.ensures.value ∙ c.in_ok-left.ensures) night.opens in
    let windows = windows_of c.in-Night.chains plan.chains c.as_slice.result.now plan.accounts known rests left plan.windows chains accounts night.windows in
    let wrote = c.in_ok-stray.ensures.joined plan.windows plan.stray more known rests left night.few_windows night.few_stray lines.1 lines.2 shelf has windows in
    let same : c.in_ok-left.left.len ≡ length c.write_windows.new.left = omega (arith, c.in_ok-left.left.ok.0, c.write_windows.auto.left, ap (λ (l : List ℕ). length l) c.as_mut_slice.ensures.value) in
    let back : c.as_slice-2.result.now ≡ c.write_windows.new.left = c.as_slice-2.ensures.value ∙ written_back c.write_windows.new.left c.in_ok-left.left.items c.in_ok-left.left.len same in
    let long : length c.as_slice-2.result.now ≡ length c.as_slice.result.now = omega (arith, ap (λ (l : List ℕ). length l) back, same, c.in_ok-left.left.ok.0, opened_length c.as_slice.result.now c.in_ok-left.left.items c.in_ok-left.ensures) in
    let H : List ℕ → Type 0 = λ l. HasLeft l (left_in plan left) in
    let closes = closing_as c.as_slice-2.result.now (left_in plan left) c.as_slice.result.now plan.accounts c.in_ok-stray.stray plan.stray (subst H (sym back) wrote.2) long accounts wrote.0 in
    let files = file_as c.as_slice-2.result.now (left_in plan left) c.as_slice.result.now plan.accounts (subst H (sym back) wrote.2) long accounts in
    let on = windows_on _ _ _ plan rests (left_in plan left) c.in_ok-write_all.ensures.ok wrote.1 in
    match_map c.close.result _ _ _ _ (λ x closed. (last_on _ _ _ _ _ on (wrote_so _ _ _ _ closes closed.0), wrote_so _ _ _ _ files closed.1)) (λ stop any. any) c.close.ensures.written

pub returns-clause-cut : goal.returns-clause-cut
returns-clause-cut g c = λ plan more known rests left there shelf night.
    let read = c.in_ok-chains.ensures.line (Night plan.chains) _ night.few_chains (plan_ahead _ _ plan more c.in_ok-plan.ensures there) in
    let said = first_said 1 plan.windows plan.stray (lit< tt) night.few_stray in
    let lines =
    c.in_ok-accounts.ensures.accounts plan.accounts (first_line 1 plan.windows plan.stray) (lines_behind 1 plan.windows plan.stray ++ more) night.opened night.few_accounts said (first_ends 1 plan.windows plan.stray).1 read.1 in
    let accounts : c.as_slice.result.now ≡ plan.accounts = c.as_slice.ensures.value ∙ lines.0 in
    let chains : c.in-Night.chains ≡ plan.chains = chains_are c.in-Night.chains plan.chains plan.chains _ c.in-Night.is read.0 refl in
    let has = left_begins c.as_slice.result.now plan.accounts c.as_mut_slice.result.now (left 1) accounts (c.as_mut_slice.ensures.value ∙ c.in_ok-left.ensures) night.opens in
    let windows = windows_of c.in-Night.chains plan.chains c.as_slice.result.now plan.accounts known rests left plan.windows chains accounts night.windows in
    let wrote = c.in_ok-stray.ensures.joined plan.windows plan.stray more known rests left night.few_windows night.few_stray lines.1 lines.2 shelf has windows in
    let same : c.in_ok-left.left.len ≡ length c.write_windows.new.left = omega (arith, c.in_ok-left.left.ok.0, c.write_windows.auto.left, ap (λ (l : List ℕ). length l) c.as_mut_slice.ensures.value) in
    let back : c.as_slice-2.result.now ≡ c.write_windows.new.left = c.as_slice-2.ensures.value ∙ written_back c.write_windows.new.left c.in_ok-left.left.items c.in_ok-left.left.len same in
    let long : length c.as_slice-2.result.now ≡ length c.as_slice.result.now = omega (arith, ap (λ (l : List ℕ). length l) back, same, c.in_ok-left.left.ok.0, opened_length c.as_slice.result.now c.in_ok-left.left.items c.in_ok-left.ensures) in
    let H : List ℕ → Type 0 = λ l. HasLeft l (left_in plan left) in
    let closes = closing_as c.as_slice-2.result.now (left_in plan left) c.as_slice.result.now plan.accounts c.in_ok-stray.stray plan.stray (subst H (sym back) wrote.2) long accounts wrote.0 in
    let files = file_as c.as_slice-2.result.now (left_in plan left) c.as_slice.result.now plan.accounts (subst H (sym back) wrote.2) long accounts in
    let on = windows_on _ _ _ plan rests (left_in plan left) c.in_ok-write_all.ensures.ok wrote.1 in
    match_map c.close.result _ _ _ _ (λ x any. any) (λ stop cut. (fault_fair known stop cut.0, last_cut _ _ _ _ _ on (prefix_so _ _ _ _ closes cut.1), prefix_so _ _ _ _ files cut.2)) c.close.ensures.cut

-- ---- why it stops

pub returns-in_err-chains-clause-why : goal.returns-in_err-chains-clause-why
returns-in_err-chains-clause-why g c = λ plan more known seen rests left there shelf night.
    let bad = c.in_err-chains.ensures.line (Night plan.chains) _ night.few_chains (plan_ahead _ _ plan more c.in_ok-plan.ensures there) in
    stopped c.from_residual-in_err-chains.result (stop_unread c.in_err-chains.field-0.0) _ c.from_residual-in_err-chains.ensures.1 (unread_why plan.chains (length plan.windows) seen known c.in_err-chains.field-0.0 bad)

pub returns-then-chains-eq0-clause-why : goal.returns-then-chains-eq0-clause-why
returns-then-chains-eq0-clause-why g c = λ plan more known seen rests left there shelf night.
    let read = c.in_ok-chains.ensures.line (Night plan.chains) _ night.few_chains (plan_ahead _ _ plan more c.in_ok-plan.ensures there) in
    let chains : c.in-Night.chains ≡ plan.chains = chains_are c.in-Night.chains plan.chains plan.chains _ c.in-Night.is read.0 refl in
    absurd (omega (arith, chains, c.if-chains-eq0.true, night.some_chain))

pub returns-in_err-accounts-clause-why : goal.returns-in_err-accounts-clause-why
returns-in_err-accounts-clause-why g c = λ plan more known seen rests left there shelf night.
    let read = c.in_ok-chains.ensures.line (Night plan.chains) _ night.few_chains (plan_ahead _ _ plan more c.in_ok-plan.ensures there) in
    let said = first_said 1 plan.windows plan.stray (lit< tt) night.few_stray in
    let bad =
    c.in_err-accounts.ensures.accounts plan.accounts (first_line 1 plan.windows plan.stray) (lines_behind 1 plan.windows plan.stray ++ more) night.opened night.few_accounts said (first_ends 1 plan.windows plan.stray).1 read.1 in
    stopped c.from_residual-in_err-accounts.result (stop_unread c.in_err-accounts.field-0.0) _ c.from_residual-in_err-accounts.ensures.1 (unread_why plan.chains (length plan.windows) seen known c.in_err-accounts.field-0.0 bad)

pub returns-in_err-stray-clause-why : goal.returns-in_err-stray-clause-why
returns-in_err-stray-clause-why g c = λ plan more known seen rests left there shelf night.
    let read = c.in_ok-chains.ensures.line (Night plan.chains) _ night.few_chains (plan_ahead _ _ plan more c.in_ok-plan.ensures there) in
    let said = first_said 1 plan.windows plan.stray (lit< tt) night.few_stray in
    let lines =
    c.in_ok-accounts.ensures.accounts plan.accounts (first_line 1 plan.windows plan.stray) (lines_behind 1 plan.windows plan.stray ++ more) night.opened night.few_accounts said (first_ends 1 plan.windows plan.stray).1 read.1 in
    let accounts : c.as_slice.result.now ≡ plan.accounts = c.as_slice.ensures.value ∙ lines.0 in
    let chains : c.in-Night.chains ≡ plan.chains = chains_are c.in-Night.chains plan.chains plan.chains _ c.in-Night.is read.0 refl in
    let has = left_begins c.as_slice.result.now plan.accounts c.as_mut_slice.result.now (left 1) accounts (c.as_mut_slice.ensures.value ∙ c.in_ok-left.ensures) night.opens in
    let windows = windows_of c.in-Night.chains plan.chains c.as_slice.result.now plan.accounts seen rests left plan.windows chains accounts night.windows in
    let Y : ℕ → Type 0 = λ n. IsWhy n (length plan.windows) seen known c.in_err-stray.field-0.0 in
    stopped c.from_residual-in_err-stray.result c.in_err-stray.field-0.0 _ c.from_residual-in_err-stray.ensures.1
    (subst Y chains (c.in_err-stray.ensures.why plan.windows plan.stray more known seen rests left night.few_windows night.few_stray lines.1 lines.2 shelf has windows))

pub returns-clause-why : goal.returns-clause-why
returns-clause-why g c = λ plan more known seen rests left there shelf night.
    match_map c.close.result _ _ _ _ (λ x any. any) (λ stop cut. fault_why plan.chains (length plan.windows) seen known stop cut.0) c.close.ensures.cut

-- ---- what is written where a part is named

pub returns-in_err-chains-clause-named : goal.returns-in_err-chains-clause-named
returns-in_err-chains-clause-named g c = λ plan more known seen rests left there shelf night.
    stopped c.from_residual-in_err-chains.result (stop_unread c.in_err-chains.field-0.0) _ c.from_residual-in_err-chains.ensures.1 (λ part names agree. absurd (unread_unnamed c.in_err-chains.field-0.0 part names))

pub returns-in_err-accounts-clause-named : goal.returns-in_err-accounts-clause-named
returns-in_err-accounts-clause-named g c = λ plan more known seen rests left there shelf night.
    stopped c.from_residual-in_err-accounts.result (stop_unread c.in_err-accounts.field-0.0) _ c.from_residual-in_err-accounts.ensures.1 (λ part names agree. absurd (unread_unnamed c.in_err-accounts.field-0.0 part names))

pub returns-in_err-stray-clause-named : goal.returns-in_err-stray-clause-named
returns-in_err-stray-clause-named g c = λ plan more known seen rests left there shelf night.
    let read = c.in_ok-chains.ensures.line (Night plan.chains) _ night.few_chains (plan_ahead _ _ plan more c.in_ok-plan.ensures there) in
    let said = first_said 1 plan.windows plan.stray (lit< tt) night.few_stray in
    let lines =
    c.in_ok-accounts.ensures.accounts plan.accounts (first_line 1 plan.windows plan.stray) (lines_behind 1 plan.windows plan.stray ++ more) night.opened night.few_accounts said (first_ends 1 plan.windows plan.stray).1 read.1 in
    let accounts : c.as_slice.result.now ≡ plan.accounts = c.as_slice.ensures.value ∙ lines.0 in
    let chains : c.in-Night.chains ≡ plan.chains = chains_are c.in-Night.chains plan.chains plan.chains _ c.in-Night.is read.0 refl in
    let has = left_begins c.as_slice.result.now plan.accounts c.as_mut_slice.result.now (left 1) accounts (c.as_mut_slice.ensures.value ∙ c.in_ok-left.ensures) night.opens in
    let windows = windows_of c.in-Night.chains plan.chains c.as_slice.result.now plan.accounts seen rests left plan.windows chains accounts night.windows in
    stopped c.from_residual-in_err-stray.result c.in_err-stray.field-0.0 _ c.from_residual-in_err-stray.ensures.1
    (λ part names agree. (
      windows_begun _ _ _ plan rests (left_in plan left) c.in_ok-write_all.ensures.ok
          (c.in_err-stray.ensures.named plan.windows plan.stray more known seen rests left night.few_windows night.few_stray lines.1 lines.2 shelf has windows part names agree),
      refl,
    ))

pub returns-clause-named : goal.returns-clause-named
returns-clause-named g c = λ plan more known seen rests left there shelf night.
    match_map c.close.result _ _ _ _ (λ x any. any) (λ stop cut part names. absurd (fault_unnamed stop part cut.0 names)) c.close.ensures.cut

use Rattle.std.proofs.Common.{◌≡◌, ◌∷◌, ◌++◌, [], List, ℕ, Some, refl, ap, subst, ◌∙◌, arith}
use Rattle.deck_reader.specs.declared.batch.Account.{Account}
use Rattle.deck_reader.specs.Cards.{pieces}
use Rattle.night_shares.specs.declared.shelf.NightFile.TheVariants.{Plan}
use Rattle.night_shares.specs.Cutting.{IsTooLarge}
use Rattle.night_shares.specs.Filing.{Files, Filing, night_filings}
use Rattle.night_shares.specs.Held.{FilesFirst}
use Rattle.night_shares.specs.Nights.{AreEnough, some_openings, some_windows}
use Rattle.night_shares.specs.Openings.{FilesOpenings, FilesSomeOpenings}
use Rattle.night_shares.specs.Plan.{front_rows}
use Rattle.night_shares.proofs.Filings.{files_more}
use Rattle.night_shares.proofs.Results.{at_err, err_all, ok_all, ok_both}
use Rattle.night_shares.proofs.Unread.{none_unread}
use Rattle.night_shares.proofs.night.cut_night.Goals as goal

pub returns-in_err-file_accounts-clause-err : goal.returns-in_err-file_accounts-clause-err
returns-in_err-file_accounts-clause-err g c =
    let accounts = c.in_ok-accounts.accounts.items in
    let chains = c.chains_for-chains.result in
    let before = g.D.Shelf.filed c.args.shelf.now in
    let then = g.D.Shelf.filed c.file.new.self in
    let now = g.D.Shelf.filed c.file_accounts.new.shelf in
    let enough : AreEnough c.args.wanted accounts chains = record { wanted_are = c.chains_for-chains.ensures.wanted; some = c.chains_for-chains.ensures.some; enough = omega (arith, c.chains_for-chains.ensures.enough, c.len.ensures); least = λ n w s e. c.chains_for-chains.ensures.least n w s (omega (arith, e, c.len.ensures)) } in
    let text = c.as_slice-2.ensures.value ∙ c.in_ok-rows.ensures ∙ ap (λ (xs : List Account). front_rows chains xs) c.as_slice.ensures.value in
    let plan = subst (λ (t : List ℕ). Files before then (record { file = Plan; text = t } ∷ [])) text c.in_ok-file.ensures.ok in
    let some = subst (λ (xs : List Account). FilesSomeOpenings then now chains xs) c.as_slice-3.ensures.value c.in_err-file_accounts.ensures.err in
    at_err c.from_residual-in_err-file_accounts.result
    (some_openings chains accounts some.count some.some.filings c.in_ok-accounts.ensures.ok enough some.few some.some.are
    (files_more before then now (record { file = Plan; text = front_rows chains accounts } ∷ []) some.some.filings plan some.some.filed))

pub cut_cards-requires-clause-names : goal.cut_cards-requires-clause-names
cut_cards-requires-clause-names g c = none_unread c.in_ok-accounts.accounts.items c.in_ok-accounts.ensures.ok.states.rules.each

pub returns-clause-ok : goal.returns-clause-ok
returns-clause-ok g c =
    let accounts = c.in_ok-accounts.accounts.items in
    let chains = c.chains_for-chains.result in
    let before = g.D.Shelf.filed c.args.shelf.now in
    let then = g.D.Shelf.filed c.file.new.self in
    let opened = g.D.Shelf.filed c.file_accounts.new.shelf in
    let now = g.D.Shelf.filed c.cut_cards.new.shelf in
    let cards = g.S.Source.left c.args.src.now in
    let enough : AreEnough c.args.wanted accounts chains = record { wanted_are = c.chains_for-chains.ensures.wanted; some = c.chains_for-chains.ensures.some; enough = omega (arith, c.chains_for-chains.ensures.enough, c.len.ensures); least = λ n w s e. c.chains_for-chains.ensures.least n w s (omega (arith, e, c.len.ensures)) } in
    let text = c.as_slice-2.ensures.value ∙ c.in_ok-rows.ensures ∙ ap (λ (xs : List Account). front_rows chains xs) c.as_slice.ensures.value in
    let plan = subst (λ (t : List ℕ). Files before then (record { file = Plan; text = t } ∷ [])) text c.in_ok-file.ensures.ok in
    let all = subst (λ (xs : List Account). FilesOpenings then opened chains xs chains) c.as_slice-3.ensures.value c.in_ok-file_accounts.ensures.ok in
    let first : List Filing = record { file = Plan; text = front_rows chains accounts } ∷ [] in
    let filed = files_more before then opened first all.filings plan all.filed in
    let Fits : List ℕ → Type 0 = λ bytes. IsTooLarge accounts (pieces bytes) → ⊥ in
    ok_all c.cut_cards.result (λ bytes. cards ≡ Some bytes) (λ bytes. Files opened now (night_filings chains accounts (pieces bytes)) × Fits bytes) _
    (λ bytes is. ok_both c.cut_cards.result (Files opened now (night_filings chains accounts (pieces bytes))) (Fits bytes) (c.cut_cards.ensures.ok bytes is) (c.cut_cards.ensures.fits bytes is))
    (λ h. record {
      chains = chains;
      accounts = accounts;
      stated = c.in_ok-accounts.ensures.ok;
      enough = enough;
      fits = λ bytes is. (h bytes is).1;
      filed = λ bytes is. (
        first ++ all.filings ++ night_filings chains accounts (pieces bytes),
        record { openings = all.filings; are_openings = all.are; whole = refl },
        files_more before opened now (first ++ all.filings) (night_filings chains accounts (pieces bytes)) filed (h bytes is).0,
      );
    })

pub returns-clause-err : goal.returns-clause-err
returns-clause-err g c =
    let accounts = c.in_ok-accounts.accounts.items in
    let chains = c.chains_for-chains.result in
    let before = g.D.Shelf.filed c.args.shelf.now in
    let then = g.D.Shelf.filed c.file.new.self in
    let opened = g.D.Shelf.filed c.file_accounts.new.shelf in
    let now = g.D.Shelf.filed c.cut_cards.new.shelf in
    let cards = g.S.Source.left c.args.src.now in
    let enough : AreEnough c.args.wanted accounts chains = record { wanted_are = c.chains_for-chains.ensures.wanted; some = c.chains_for-chains.ensures.some; enough = omega (arith, c.chains_for-chains.ensures.enough, c.len.ensures); least = λ n w s e. c.chains_for-chains.ensures.least n w s (omega (arith, e, c.len.ensures)) } in
    let text = c.as_slice-2.ensures.value ∙ c.in_ok-rows.ensures ∙ ap (λ (xs : List Account). front_rows chains xs) c.as_slice.ensures.value in
    let plan = subst (λ (t : List ℕ). Files before then (record { file = Plan; text = t } ∷ [])) text c.in_ok-file.ensures.ok in
    let all = subst (λ (xs : List Account). FilesOpenings then opened chains xs chains) c.as_slice-3.ensures.value c.in_ok-file_accounts.ensures.ok in
    let first : List Filing = record { file = Plan; text = front_rows chains accounts } ∷ [] in
    let filed = files_more before then opened first all.filings plan all.filed in
    err_all c.cut_cards.result (λ bytes. cards ≡ Some bytes) (λ bytes. FilesFirst opened now (night_filings chains accounts (pieces bytes))) _ c.cut_cards.ensures.err
    (λ h. some_windows chains accounts all.filings opened c.in_ok-accounts.ensures.ok enough all.are filed h)

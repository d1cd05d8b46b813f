use Rattle.std.proofs.Common.{List, ℕ, Err, ap, subst}
use Rattle.deck_reader.specs.declared.batch.Account.{Account}
use Rattle.accounts_text.specs.declared.reading.AccountsError.{AccountsError}
use Rattle.night_shares.specs.declared.stop.Stop.{Stop}
use Rattle.night_shares.specs.Accounts.{IsBadAccounts, NightAccountsText, stop_for}
use Rattle.night_shares.specs.Stops.{AccountsCause}
use Rattle.night_shares.proofs.ChainFiles.{bad_accounts}
use Rattle.night_shares.proofs.Results.{at_this}
use Rattle.night_shares.proofs.accounts.night_accounts.Goals as goal

pub returns-in_err-accounts-clause-cause : goal.returns-in_err-accounts-clause-cause
returns-in_err-accounts-clause-cause g c =
    let error = c.in_err-accounts.field-0.0 in
    let left = g.A.Source.left c.args.src.now in
    let left' = g.A.Source.left c.read_text.new.src in
    let faults = g.A.Source.faults c.args.src.now in
    let faults' = g.A.Source.faults c.read_text.new.src in
    let P : Stop → Type 0 = λ stop. AccountsCause stop faults faults' (IsBadAccounts left left') in
    at_this c.from_residual-in_err-accounts.result (stop_for error) P c.from_residual-in_err-accounts.ensures.1
    (bad_accounts error faults faults' left left' c.in_ok-text.text.items c.in_ok-text.ensures.ok
    (λ is. subst (λ (t : List ℕ). (accounts : List Account) → NightAccountsText t accounts → ⊥) c.as_slice.ensures.value (c.in_err-accounts.ensures.bad (ap (λ (e : AccountsError). Err e) is))))

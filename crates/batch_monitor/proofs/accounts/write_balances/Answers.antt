use Rattle.std.proofs.Common.{sym, subst, ◌∙◌}
use Rattle.accounts_text.specs.Text.{AreAccounts}
use Rattle.batch_monitor.proofs.Closed.{closed_are_accounts}
use Rattle.batch_monitor.proofs.accounts.write_balances.Goals as goal

pub accounts_bytes-requires : goal.accounts_bytes-requires
accounts_bytes-requires g c =
    let behind = c.requires.behind in
    subst AreAccounts (sym (c.as_slice.ensures.value ∙ c.in_ok-closed.ensures behind.0 behind.1)) (closed_are_accounts c.args.audit.now.book.accounts behind.0 c.requires.accounts)

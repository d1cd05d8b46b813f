use Rattle.account_book.specs.BookView.{openings_of}
use Rattle.batch_listing.specs.Behind.{with_balances}
use Rattle.batch_listing.specs.Listing.{closed_accounts}
use Rattle.batch_listing.proofs.Closed.{as_in_book, closed_by_book, same_items}
use Rattle.batch_listing.proofs.audit.Audit.closing_accounts.Goals as goal

pub returns : goal.returns
returns c = λ jobs behind.
    let book = c.args.self.now.book in
    let closed = closed_accounts (openings_of book.accounts) jobs book.accounts in
    same_items (λ v. v.items) c.with_balances.result (with_balances c.accounts.result.now c.balances.result.now) closed c.with_balances.ensures
    (as_in_book book c.accounts.result.now closed c.balances.result.now c.accounts.ensures c.balances.ensures.value (closed_by_book book jobs c.balances.ensures.each behind))

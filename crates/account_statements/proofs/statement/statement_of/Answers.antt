use Rattle.std.proofs.Common.{◌≡◌, map, slice_index, sym, ap, ◌∙◌}
use Rattle.account_book.specs.BookView.{openings_of}
use Rattle.account_book.specs.OwnJobs.{own_jobs}
use Rattle.algolw_meaning.specs.Charging.{decisions}
use Rattle.account_statements.specs.Statement.{no_account, statement, statement_in}
use Rattle.account_statements.proofs.Stating.{as_in_batch, none_in_batch, same_text}
use Rattle.account_statements.proofs.statement.statement_of.Goals as goal

pub returns-in-Some : goal.returns-in-Some
returns-in-Some c = λ b same_accounts same_jobs so.
    let name = c.args.name.now in
    let accounts = c.args.book.now.accounts in
    let jobs = map (λ j. j.value) c.args.jobs.now in
    let account = c.in-Some.account in
    let opening = c.opening_of.result in
    let found = sym c.find.ensures ∙ c.in-Some.is in
    let at = c.opening_of.ensures ∙ ap (λ xs. slice_index (openings_of xs) account) c.accounts.ensures in
    same_text (λ v. v.items) c.own_statement.result (statement name opening (own_jobs account jobs)) (statement_in name b)
    (c.own_statement.ensures (openings_of b.accounts) (at ∙ ap (λ xs. slice_index (openings_of xs) account) (sym same_accounts)) (so ∙ ap (decisions (openings_of b.accounts)) same_jobs))
    (as_in_batch name b accounts jobs account opening same_accounts same_jobs found at)

pub returns-in-None : goal.returns-in-None
returns-in-None c = λ b same_accounts same_jobs so.
    let none = sym c.find.ensures ∙ c.in-None.is in
    same_text (λ v. v.items) c.no_account.result (no_account c.args.name.now) (statement_in c.args.name.now b) c.no_account.ensures (none_in_batch c.args.name.now b c.args.book.now.accounts same_accounts none)

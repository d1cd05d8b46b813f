-- Statements that are the same.
use Rattle.std.proofs.Common.{◌≡◌, ℕ, slice_index, sym, ap, ◌∙◌}
use Rattle.account_book.specs.BookView.{openings_of}
use Rattle.account_book.specs.OwnJobs.{own_jobs}
use Rattle.account_statements.specs.Statement.{statement, statement_by}
use Rattle.account_statements.specs.Laws.{StatementsByAccount}

pub statements_by_account : StatementsByAccount
statements_by_account name one two same =
    ap (statement_by name one) same.in_one
    ∙ ap (λ (opening : ℕ). statement name opening (own_jobs same.first one.jobs)) same.openings
    ∙ ap (statement name (slice_index (openings_of two.accounts) same.second)) same.jobs
    ∙ sym (ap (statement_by name two) same.in_two)

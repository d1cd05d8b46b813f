-- The statement of an account's own batch.
use Rattle.std.proofs.Common.{◌≡◌, ℕ, List, [], ◌∷◌, Some, None, slice_get, sym, ap, ◌∙◌}
use Rattle.deck_reader.specs.declared.batch.Account.{Account}
use Rattle.deck_reader.specs.declared.batch.Batch.{Batch}
use Rattle.deck_reader.specs.Batch.{account_of, batch, batch_of}
use Rattle.account_book.specs.OwnJobs.{own_jobs}
use Rattle.account_statements.specs.Statement.{statement, statement_by, statement_in}
use Rattle.account_shares.specs.Laws.{OwnInputStatement, OwnStatement}
use Rattle.account_shares.proofs.Bytes.{own_input}
use Rattle.account_shares.proofs.Cut.{first_of_own, opening_at, own_again, own_batch}

own_alone : (name : List ℕ) (b : Batch) (account : ℕ) (a : Account) → account_of b.accounts name ≡ Some account → slice_get b.accounts account ≡ Some a
    → statement_in name (record { accounts = a ∷ []; jobs = own_jobs account b.jobs; stray = 0 }) ≡ statement_in name b
own_alone name b account a found at =
    ap (statement_by name (record { accounts = a ∷ []; jobs = own_jobs account b.jobs; stray = 0 })) (first_of_own b.accounts name account a found at)
    ∙ ap (statement name a.opening) (own_again account b.jobs)
    ∙ ap (λ (opening : ℕ). statement name opening (own_jobs account b.jobs)) (sym (opening_at b.accounts account a at))
    ∙ sym (ap (statement_by name b) found)

pub own_statement : OwnStatement
own_statement name cards card account a found at states = ap (statement_in name) (own_batch cards card account a at states) ∙ own_alone name (batch_of None cards) account a found at

pub own_input_statement : OwnInputStatement
own_input_statement name bytes card account a found at states is = ap (statement_in name) (own_input bytes card account a at states is) ∙ own_alone name (batch bytes) account a found at

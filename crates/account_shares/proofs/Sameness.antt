-- Bodies where the balances are the same.
use Rattle.std.proofs.Common.{◌≡◌, ℕ, cond, nat_le, Option, Some, None, refl, ap}
use Rattle.deck_reader.specs.declared.batch.Flaw.{Flaw}
use Rattle.deck_reader.specs.JobView.{JobView}
use Rattle.account_book.specs.Charges.{reserve}
use Rattle.batch_listing.specs.declared.verdict.Verdict.TheVariants.{Refused, Accepted}
use Rattle.batch_listing.specs.Listing.{body, verdict, verdict_by}

same_by : (flaw : Option Flaw) (payer : Option ℕ) (most : ℕ) (balance balance' : ℕ → ℕ) (job : JobView) → ((account : ℕ) → balance account ≡ balance' account)
    → body (verdict_by flaw payer most balance) job ≡ body (verdict_by flaw payer most balance') job
same_by (Some f) payer most balance balance' job same = refl
same_by None None most balance balance' job same = refl
same_by None (Some p) most balance balance' job same = ap (λ (n : ℕ). body (cond (nat_le most n) (Accepted p) (Refused most n)) job) (same p)

-- a body depends on the balances alone
pub same_body : (job : JobView) (balance balance' : ℕ → ℕ) → ((account : ℕ) → balance account ≡ balance' account) → body (verdict balance job) job ≡ body (verdict balance' job) job
same_body job balance balance' same = same_by job.flaw job.account (reserve job) balance balance' job same

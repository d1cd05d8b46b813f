-- What a job gives and costs, in a batch and among its account's jobs.
use Rattle.std.proofs.Common.{◌≡◌, ℕ, ◌+◌, ◌-◌, ◌&&◌, Bool, true, false, cond, nat_le, List, [], ◌∷◌, ◌++◌, Option, Some, None, fold, map, slice_index, refl, sym, ap, ◌∙◌}
use Rattle.std.proofs.lemmas.List.{map-append}
use Rattle.std.proofs.lemmas.List.Sums.{fold-append}
use Rattle.deck_reader.specs.declared.batch.Flaw.{Flaw}
use Rattle.deck_reader.specs.JobView.{JobView}
use Rattle.account_book.specs.Charges.{charge, reserve}
use Rattle.account_book.specs.OwnJobs.{as_own, is_of, jobs_on, numbered, own_jobs}
use Rattle.account_book.specs.Places.{Claim, account_by, after, is_on, place_balance}
use Rattle.algolw_meaning.specs.Charging.{charged}
use Rattle.algolw_meaning.specs.DeckDiagnostics.{Deck, IsProgram, IsWrong, NothingFound, job_deck}
use Rattle.algolw_meaning.specs.Meaning.{JobResult, job_library, shown_diagnostics}
use Rattle.algolw_meaning.specs.Running.{job_result, result_of_deck}
use Rattle.value_ops.specs.declared.places.Diagnostic.{Diagnostic}
use Rattle.account_statements.specs.Laws.{OwnBalances, ResultsByContent}

-- ---- what a job gives

same_result : (faults : List Diagnostic) (deck : Deck) (job : JobView) (number : ℕ) (account : Option ℕ) → result_of_deck faults deck (record job { number = number; account = account }) ≡ result_of_deck faults deck job
same_result [] (IsProgram x) job number account = refl
same_result [] (IsWrong d) job number account = refl
same_result [] NothingFound job number account = refl
same_result (f ∷ faults) deck job number account = refl

pub results_by_content : ResultsByContent
results_by_content job number account = same_result (shown_diagnostics (job_library job) job.deck) (job_deck (job_library job) job.deck) job number account

-- ---- balances

-- an own claim lowers the balance as it does in the batch
pub at_own : (flaw : Option Flaw) (payer : Option ℕ) (account balance most paid : ℕ) → is_on account payer ≡ true
    → after 0 balance (record { account = account_by flaw (Some 0); reserve = most }, paid) ≡ after account balance (record { account = account_by flaw payer; reserve = most }, paid)
at_own (Some f) payer account balance most paid h = refl
at_own None None account balance most paid h = cc
at_own None (Some p) account balance most paid h = ap (λ (b : Bool). cond (b && nat_le most balance) (balance - paid) balance) (sym h)

-- the claim of another account leaves it
pub at_other : (flaw : Option Flaw) (payer : Option ℕ) (account balance most paid : ℕ) → is_on account payer ≡ false
    → after account balance (record { account = account_by flaw payer; reserve = most }, paid) ≡ balance
at_other (Some f) payer account balance most paid h = refl
at_other None None account balance most paid h = refl
at_other None (Some p) account balance most paid h = ap (λ (b : Bool). cond (b && nat_le most balance) (balance - paid) balance) h

pub after_own : (account number balance : ℕ) (job : JobView) → is_of account job ≡ true → after 0 balance (charged (as_own number job)) ≡ after account balance (charged job)
after_own account number balance job own =
    ap (λ (r : JobResult). after 0 balance (record { account = account_by job.flaw (Some 0); reserve = reserve job }, charge r.counts)) (results_by_content job number (Some 0))
    ∙ at_own job.flaw job.account account balance (reserve job) (charge (job_result job).counts) own

own_fold_by : (b : Bool) (account number balance : ℕ) (job : JobView) (jobs : List JobView) → is_of account job ≡ b
    → ((number balance : ℕ) → fold (after 0) balance (map charged (numbered number (jobs_on account jobs))) ≡ fold (after account) balance (map charged jobs))
    → fold (after 0) balance (map charged (numbered number (cond b (job ∷ jobs_on account jobs) (jobs_on account jobs)))) ≡ fold (after account) (after account balance (charged job)) (map charged jobs)
own_fold_by true account number balance job jobs is rest =
    rest (number + 1) (after 0 balance (charged (as_own number job)))
    ∙ ap (λ (n : ℕ). fold (after account) n (map charged jobs)) (after_own account number balance job is)
own_fold_by false account number balance job jobs is rest =
    rest number balance
    ∙ ap (λ (n : ℕ). fold (after account) n (map charged jobs)) (sym (at_other job.flaw job.account account balance (reserve job) (charge (job_result job).counts) is))

own_fold : (account : ℕ) (jobs : List JobView) (number balance : ℕ) → fold (after 0) balance (map charged (numbered number (jobs_on account jobs))) ≡ fold (after account) balance (map charged jobs)
own_fold account [] number balance = refl
own_fold account (job ∷ jobs) number balance = own_fold_by (is_of account job) account number balance job jobs refl (own_fold account jobs)

pub own_balances : OwnBalances
own_balances openings jobs account = own_fold account jobs 1 (slice_index openings account)

-- the balance behind a job more
pub more_behind : (openings : List ℕ) (account : ℕ) (earlier : List JobView) (job : JobView) → place_balance openings (map charged (earlier ++ job ∷ [])) account ≡ after account (place_balance openings (map charged earlier) account) (charged job)
more_behind openings account earlier job =
    ap (λ (claims : List (Claim × ℕ)). fold (after account) (slice_index openings account) claims) (map-append charged earlier (job ∷ []))
    ∙ fold-append (after account) (slice_index openings account) (map charged earlier) (charged job ∷ [])

-- The statement of an account, from what became of all jobs of its batch.
use Rattle.std.proofs.Common.{◌≡◌, ◌⊎◌, ℕ, suc, inl, inr, ◌+◌, Bool, true, false, cond, nat_le, List, [], ◌∷◌, ◌++◌, Option, Some, None, length, map, slice_index, IfOk, Result, refl, sym, ap, subst, ◌∙◌, arith, append_assoc, append-nil}
use Rattle.std.proofs.lemmas.Bool.Decides.{nat_tests}
use Rattle.std.proofs.lemmas.Result.{IfOk-weaker}
use Rattle.std.proofs.lemmas.List.{length-append}
use Rattle.deck_reader.specs.declared.batch.Account.{Account}
use Rattle.deck_reader.specs.declared.batch.Batch.{Batch}
use Rattle.deck_reader.specs.Batch.{account_of}
use Rattle.deck_reader.specs.JobView.{JobView}
use Rattle.account_book.specs.BookView.{openings_of}
use Rattle.account_book.specs.Charges.{reserve}
use Rattle.account_book.specs.OwnJobs.{as_own, is_of, jobs_on, numbered, own_jobs}
use Rattle.account_book.specs.Places.{covers, is_on, place_balance}
use Rattle.account_book.specs.declared.decision.Decision.{Decision}
use Rattle.algolw_meaning.specs.Meaning.{JobResult}
use Rattle.algolw_meaning.specs.Running.{job_result}
use Rattle.algolw_meaning.specs.Charging.{balance_on, charged, decision_at, decision_by, decisions}
use Rattle.algolw_meaning.proofs.Charging.{decisions_behind, decisions_in_order}
use Rattle.account_statements.specs.Laws.{DecisionsByAccount}
use Rattle.account_statements.specs.Statement.{balance_behind, no_account, statement, statement_by, statement_in}
use Rattle.account_statements.specs.Standing.{IsStatement, StatementView, with_job, with_own}
use Rattle.account_statements.proofs.Adding.{added}
use Rattle.account_statements.proofs.Balances.{own_balances, results_by_content}

-- ---- what becomes of a job

pub decisions_by_account : DecisionsByAccount
decisions_by_account openings earlier job account number is =
    let balance : ℕ → ℕ = place_balance openings (map charged earlier) in
    let By : ℕ → Decision = λ left. decision_by job.flaw (nat_le (reserve job) left) (reserve job) left (job_result job).counts in
    ap (λ (r : JobResult). decision_by job.flaw (nat_le (reserve job) (balance_behind (slice_index openings account) (own_jobs account earlier))) (reserve job) (balance_behind (slice_index openings account) (own_jobs account earlier)) r.counts) (results_by_content job number (Some 0))
    ∙ ap By (own_balances openings earlier account)
    ∙ sym (ap (λ (payer : Option ℕ). decision_by job.flaw (covers balance payer (reserve job)) (reserve job) (balance_on balance payer) (job_result job).counts) is)

-- ---- an account's jobs with a job more

jobs_more_by : (b : Bool) (account : ℕ) (x : JobView) (xs : List JobView) (last : List JobView) → jobs_on account (xs ++ last) ≡ jobs_on account xs ++ jobs_on account last
    → cond b (x ∷ jobs_on account (xs ++ last)) (jobs_on account (xs ++ last)) ≡ cond b (x ∷ jobs_on account xs) (jobs_on account xs) ++ jobs_on account last
jobs_more_by true account x xs last same = ap (λ (js : List JobView). x ∷ js) same
jobs_more_by false account x xs last same = same

jobs_more : (account : ℕ) (xs last : List JobView) → jobs_on account (xs ++ last) ≡ jobs_on account xs ++ jobs_on account last
jobs_more account [] last = refl
jobs_more account (x ∷ xs) last = jobs_more_by (is_of account x) account x xs last (jobs_more account xs last)

numbered_more : (number : ℕ) (xs : List JobView) (last : JobView) → numbered number (xs ++ last ∷ []) ≡ numbered number xs ++ as_own (number + length xs) last ∷ []
numbered_more number [] last = let same : number ≡ number + 0 = omega arith in ap (λ (n : ℕ). as_own n last ∷ []) same
numbered_more number (x ∷ xs) last =
    let same : number + 1 + length xs ≡ number + length (x ∷ xs) = omega arith in
    ap (λ (js : List JobView). as_own number x ∷ js) (numbered_more (number + 1) xs last ∙ ap (λ (n : ℕ). numbered (number + 1) xs ++ as_own n last ∷ []) same)

numbered_length : (number : ℕ) (xs : List JobView) → length (numbered number xs) ≡ length xs
numbered_length number [] = refl
numbered_length number (x ∷ xs) = ap suc (numbered_length (number + 1) xs)

-- a job of the account is its next one
own_more : (account : ℕ) (earlier : List JobView) (job : JobView) → is_of account job ≡ true
    → own_jobs account (earlier ++ job ∷ []) ≡ own_jobs account earlier ++ as_own (length (own_jobs account earlier) + 1) job ∷ []
own_more account earlier job own =
    let count : 1 + length (jobs_on account earlier) ≡ length (own_jobs account earlier) + 1 = omega (arith, numbered_length 1 (jobs_on account earlier)) in
    ap (numbered 1) (jobs_more account earlier (job ∷ []) ∙ ap (λ (b : Bool). jobs_on account earlier ++ cond b (job ∷ []) []) own)
    ∙ numbered_more 1 (jobs_on account earlier) job
    ∙ ap (λ (n : ℕ). own_jobs account earlier ++ as_own n job ∷ []) count

-- another job isn't
own_same : (account : ℕ) (earlier : List JobView) (job : JobView) → is_of account job ≡ false → own_jobs account (earlier ++ job ∷ []) ≡ own_jobs account earlier
own_same account earlier job other =
    ap (numbered 1) (jobs_more account earlier (job ∷ []) ∙ ap (λ (b : Bool). jobs_on account earlier ++ cond b (job ∷ []) []) other ∙ append-nil (jobs_on account earlier))

pub payer_is : (account : ℕ) (payer : Option ℕ) → is_on account payer ≡ true → payer ≡ Some account
payer_is account None h = cc
payer_is account (Some p) h = let same : p ≡ account = grind (arith, nat_tests) in ap (λ (n : ℕ). Some n) same

-- ---- one job after the other

-- the statement up to these jobs of the batch
abbrev StandsUpTo : StatementView → List ℕ → List ℕ → ℕ → List JobView → Type 0
StandsUpTo s name openings account earlier = IsStatement s name (slice_index openings account) (own_jobs account earlier)

one_job : (b : Bool) (s : StatementView) (name openings : List ℕ) (account : ℕ) (earlier : List JobView) (job : JobView) → is_of account job ≡ b → StandsUpTo s name openings account earlier
    → StandsUpTo (cond b (with_job s job (decision_at openings earlier job)) s) name openings account (earlier ++ job ∷ [])
one_job true s name openings account earlier job own stands =
    let opening = slice_index openings account in
    subst (IsStatement (with_job s job (decision_at openings earlier job)) name opening) (sym (own_more account earlier job own))
    (added s job (decision_at openings earlier job) name opening (own_jobs account earlier) stands
    (sym (decisions_by_account openings earlier job account (length (own_jobs account earlier) + 1) (payer_is account job.account own))))
one_job false s name openings account earlier job other stands = subst (IsStatement s name (slice_index openings account)) (sym (own_same account earlier job other)) stands

all_jobs : (s : StatementView) (name openings : List ℕ) (account : ℕ) (earlier jobs : List JobView) → StandsUpTo s name openings account earlier
    → StandsUpTo (with_own account s jobs (decisions_behind openings earlier jobs)) name openings account (earlier ++ jobs)
all_jobs s name openings account earlier [] stands = subst (StandsUpTo s name openings account) (sym (append-nil earlier)) stands
all_jobs s name openings account earlier (job ∷ jobs) stands =
    let next : StatementView = cond (is_of account job) (with_job s job (decision_at openings earlier job)) s in
    subst (StandsUpTo (with_own account next jobs (decisions_behind openings (earlier ++ job ∷ []) jobs)) name openings account) (append_assoc earlier (job ∷ []) jobs)
    (all_jobs next name openings account (earlier ++ job ∷ []) jobs (one_job (is_of account job) s name openings account earlier job refl stands))

-- the statement with all jobs of the account
pub stated : (s : StatementView) (name openings : List ℕ) (account opening : ℕ) (jobs : List JobView) (became : List Decision) → IsStatement s name opening [] → opening ≡ slice_index openings account
    → became ≡ decisions openings jobs → IsStatement (with_own account s jobs became) name opening (own_jobs account jobs)
stated s name openings account opening jobs became stands is so =
    subst (λ (o : ℕ). IsStatement (with_own account s jobs became) name o (own_jobs account jobs)) (sym is)
    (subst (λ (ds : List Decision). StandsUpTo (with_own account s jobs ds) name openings account jobs) (decisions_in_order openings jobs ∙ sym so)
    (all_jobs s name openings account [] jobs (subst (λ (o : ℕ). IsStatement s name o []) is stands)))

-- ---- in a batch

-- the statement of the account that was found is that of the name
pub as_in_batch : (name : List ℕ) (b : Batch) (accounts : List Account) (jobs : List JobView) (account opening : ℕ) → b.accounts ≡ accounts → b.jobs ≡ jobs → account_of accounts name ≡ Some account
    → opening ≡ slice_index (openings_of accounts) account → statement name opening (own_jobs account jobs) ≡ statement_in name b
as_in_batch name b accounts jobs account opening same_accounts same_jobs found at =
    ap (λ (o : ℕ). statement name o (own_jobs account jobs)) (at ∙ ap (λ (xs : List Account). slice_index (openings_of xs) account) (sym same_accounts))
    ∙ ap (λ (js : List JobView). statement name (slice_index (openings_of b.accounts) account) (own_jobs account js)) (sym same_jobs)
    ∙ sym (ap (statement_by name b) (ap (λ (xs : List Account). account_of xs name) same_accounts ∙ found))

pub none_in_batch : (name : List ℕ) (b : Batch) (accounts : List Account) → b.accounts ≡ accounts → account_of accounts name ≡ None → no_account name ≡ statement_in name b
none_in_batch name b accounts same_accounts none = sym (ap (statement_by name b) (ap (λ (xs : List Account). account_of xs name) same_accounts ∙ none))

-- ---- at the end of the jobs

none_left : (account : ℕ) (s : StatementView) (jobs : List JobView) → with_own account s jobs [] ≡ s
none_left account s [] = refl
none_left account s (job ∷ jobs) = refl

-- where no job or no decision is left, nothing is added
pub own_at_end : {A : Type 0} (f : A → JobView) (account : ℕ) (s : StatementView) (xs : List A) (became : List Decision) → (xs ≡ []) ⊎ (became ≡ []) → with_own account s (map f xs) became ≡ s
own_at_end {A} f account s xs became ends = elim ends [
  | inl none ↦ ap (λ (ys : List A). with_own account s (map f ys) became) none
  | inr none ↦ ap (with_own account s (map f xs)) none ∙ none_left account s (map f xs)
]

-- a text that is made is another that it is
pub same_text : {V E : Type 0} (items : V → List ℕ) (r : Result V E) (one other : List ℕ) → IfOk r (λ v. items v ≡ one) → one ≡ other → IfOk r (λ v. items v ≡ other)
same_text items r one other made same = IfOk-weaker r (λ v. items v ≡ one) (λ v. items v ≡ other) (λ v is. is ∙ same) made

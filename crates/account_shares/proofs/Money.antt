-- The sections of an account's jobs, in a batch and alone.
use Rattle.std.proofs.Common.{◌≡◌, ℕ, ◌+◌, Bool, true, false, cond, nat_le, List, [], ◌∷◌, ◌++◌, Option, Some, None, map, slice_index, refl, sym, ap, ◌∙◌}
use Rattle.deck_reader.specs.declared.batch.Flaw.{Flaw}
use Rattle.deck_reader.specs.JobView.{JobView}
use Rattle.account_book.specs.Charges.{charge, reserve}
use Rattle.account_book.specs.OwnJobs.{as_own, is_of, jobs_on, numbered, own_jobs}
use Rattle.account_book.specs.Places.{after, place_balance}
use Rattle.algolw_meaning.specs.Charging.{charged}
use Rattle.algolw_meaning.specs.Meaning.{JobResult}
use Rattle.algolw_meaning.specs.Running.{job_result}
use Rattle.account_statements.proofs.Balances.{after_own, at_other, more_behind, own_balances, results_by_content}
use Rattle.account_statements.proofs.Stating.{payer_is}
use Rattle.batch_listing.specs.declared.verdict.Verdict.TheVariants.{Refused, Accepted}
use Rattle.batch_listing.specs.Listing.{body, section, verdict, verdict_by}
use Rattle.batch_listing.specs.Texts.{title, flawed_line}
use Rattle.batch_listing.proofs.Sections.{sections_behind, sections_in_order}
use Rattle.account_shares.specs.Own.{merged_sections, own_sections, section_as, shared_body}
use Rattle.account_shares.specs.Laws.{FlawedSections, OwnBodies, OwnSections, SectionsFromShares}

-- ---- bodies

accepted_alike : (b : Bool) (account most balance : ℕ) (job' job : JobView) → (job_result job').body ≡ (job_result job).body
    → body (cond b (Accepted 0) (Refused most balance)) job' ≡ body (cond b (Accepted account) (Refused most balance)) job
accepted_alike true account most balance job' job same = same
accepted_alike false account most balance job' job same = refl

alike : (flaw : Option Flaw) (most account : ℕ) (balance' balance : ℕ → ℕ) (job' job : JobView) → balance' 0 ≡ balance account → (job_result job').body ≡ (job_result job).body
    → body (verdict_by flaw (Some 0) most balance') job' ≡ body (verdict_by flaw (Some account) most balance) job
alike (Some f) most account balance' balance job' job left same = refl
alike None most account balance' balance job' job left same =
    ap (λ (n : ℕ). body (cond (nat_le most n) (Accepted 0) (Refused most n)) job') left
    ∙ accepted_alike (nat_le most (balance account)) account most (balance account) job' job same

pub own_bodies : OwnBodies
own_bodies openings earlier job account number is =
    alike job.flaw (reserve job) account (place_balance (slice_index openings account ∷ []) (map charged (own_jobs account earlier))) (place_balance openings (map charged earlier)) (as_own number job) job
    (own_balances openings earlier account) (ap (λ (r : JobResult). r.body) (results_by_content job number (Some 0)))
    ∙ ap (λ (payer : Option ℕ). body (verdict_by job.flaw payer (reserve job) (place_balance openings (map charged earlier))) job) (sym is)

-- ---- sections

-- the balance behind the own jobs is the one behind all of them
abbrev Agrees : List ℕ → ℕ → List JobView → List JobView → Type 0
Agrees openings account own earlier = place_balance (slice_index openings account ∷ []) (map charged own) 0 ≡ place_balance openings (map charged earlier) account

agrees_own : (openings : List ℕ) (account number : ℕ) (own earlier : List JobView) (job : JobView) → is_of account job ≡ true → Agrees openings account own earlier
    → Agrees openings account (own ++ as_own number job ∷ []) (earlier ++ job ∷ [])
agrees_own openings account number own earlier job is agrees =
    more_behind (slice_index openings account ∷ []) 0 own (as_own number job)
    ∙ ap (λ (n : ℕ). after 0 n (charged (as_own number job))) agrees
    ∙ after_own account number (place_balance openings (map charged earlier) account) job is
    ∙ sym (more_behind openings account earlier job)

agrees_other : (openings : List ℕ) (account : ℕ) (own earlier : List JobView) (job : JobView) → is_of account job ≡ false → Agrees openings account own earlier
    → Agrees openings account own (earlier ++ job ∷ [])
agrees_other openings account own earlier job is agrees =
    agrees
    ∙ sym (at_other job.flaw job.account account (place_balance openings (map charged earlier) account) (reserve job) (charge (job_result job).counts) is)
    ∙ sym (more_behind openings account earlier job)

-- an own section is the one at the job's place, with its own number
section_own : (openings : List ℕ) (account number : ℕ) (own earlier : List JobView) (job : JobView) → is_of account job ≡ true → Agrees openings account own earlier
    → section (slice_index openings account ∷ []) own (as_own number job) ≡ section_as number openings earlier job
section_own openings account number own earlier job is agrees =
    ap (λ (text : List ℕ). title (record job { number = number }) ++ text)
    (alike job.flaw (reserve job) account (place_balance (slice_index openings account ∷ []) (map charged own)) (place_balance openings (map charged earlier)) (as_own number job) job
    agrees (ap (λ (r : JobResult). r.body) (results_by_content job number (Some 0)))
    ∙ ap (λ (payer : Option ℕ). body (verdict_by job.flaw payer (reserve job) (place_balance openings (map charged earlier))) job) (sym (payer_is account job.account is)))

own_behind_by : (b : Bool) (openings : List ℕ) (account number : ℕ) (own earlier : List JobView) (job : JobView) (jobs : List JobView) → is_of account job ≡ b → Agrees openings account own earlier
    → ((number : ℕ) (own : List JobView) → Agrees openings account own (earlier ++ job ∷ [])
    → sections_behind (slice_index openings account ∷ []) own (numbered number (jobs_on account jobs)) ≡ own_sections account number openings (earlier ++ job ∷ []) jobs)
    → sections_behind (slice_index openings account ∷ []) own (numbered number (cond b (job ∷ jobs_on account jobs) (jobs_on account jobs)))
    ≡ cond b (section_as number openings earlier job ++ own_sections account (number + 1) openings (earlier ++ job ∷ []) jobs) (own_sections account number openings (earlier ++ job ∷ []) jobs)
own_behind_by true openings account number own earlier job jobs is agrees rest =
    ap (λ (text : List ℕ). text ++ sections_behind (slice_index openings account ∷ []) (own ++ as_own number job ∷ []) (numbered (number + 1) (jobs_on account jobs))) (section_own openings account number own earlier job is agrees)
    ∙ ap (λ (text : List ℕ). section_as number openings earlier job ++ text) (rest (number + 1) (own ++ as_own number job ∷ []) (agrees_own openings account number own earlier job is agrees))
own_behind_by false openings account number own earlier job jobs is agrees rest = rest number own (agrees_other openings account own earlier job is agrees)

own_behind : (openings : List ℕ) (account number : ℕ) (own earlier jobs : List JobView) → Agrees openings account own earlier
    → sections_behind (slice_index openings account ∷ []) own (numbered number (jobs_on account jobs)) ≡ own_sections account number openings earlier jobs
own_behind openings account number own earlier [] agrees = refl
own_behind openings account number own earlier (job ∷ jobs) agrees =
    own_behind_by (is_of account job) openings account number own earlier job jobs refl agrees
    (λ n o a. own_behind openings account n o (earlier ++ job ∷ []) jobs a)

pub own_sections_alike : OwnSections
own_sections_alike openings jobs account =
    sym (sections_in_order (slice_index openings account ∷ []) (own_jobs account jobs))
    ∙ own_behind openings account 1 [] [] jobs refl

-- ---- flawed jobs

body_flawed : (openings : List ℕ) (earlier : List JobView) (job : JobView) (flaw : Flaw) → job.flaw ≡ Some flaw → section openings earlier job ≡ title job ++ flawed_line flaw
body_flawed openings earlier job flaw is =
    ap (λ (f : Option Flaw). title job ++ body (verdict_by f job.account (reserve job) (place_balance openings (map charged earlier))) job) is

pub flawed_sections : FlawedSections
flawed_sections openings openings' earlier earlier' job flaw is = body_flawed openings earlier job flaw is ∙ sym (body_flawed openings' earlier' job flaw is)

-- ---- the whole from its shares

-- a job without an account shows the same, whatever the balances
unowned : (flaw : Option Flaw) (most : ℕ) (balance balance' : ℕ → ℕ) (job : JobView) → body (verdict_by flaw None most balance) job ≡ body (verdict_by flaw None most balance') job
unowned (Some flaw) most balance balance' job = refl
unowned None most balance balance' job = refl

shared_by : (payer : Option ℕ) (openings : List ℕ) (earlier : List JobView) (job : JobView) → job.account ≡ payer
    → body (verdict (place_balance openings (map charged earlier)) job) job ≡ shared_body payer openings earlier job
shared_by None openings earlier job is =
    ap (λ (payer : Option ℕ). body (verdict_by job.flaw payer (reserve job) (place_balance openings (map charged earlier))) job) is
    ∙ unowned job.flaw (reserve job) (place_balance openings (map charged earlier)) (λ _. 0) job
    ∙ sym (ap (λ (payer : Option ℕ). body (verdict_by job.flaw payer (reserve job) (λ _. 0)) job) is)
shared_by (Some account) openings earlier job is = sym (own_bodies openings earlier job account 1 is)

merged : (openings : List ℕ) (earlier jobs : List JobView) → sections_behind openings earlier jobs ≡ merged_sections openings earlier jobs
merged openings earlier [] = refl
merged openings earlier (job ∷ jobs) =
    ap (λ (text : List ℕ). (title job ++ text) ++ sections_behind openings (earlier ++ job ∷ []) jobs) (shared_by job.account openings earlier job refl)
    ∙ ap (λ (text : List ℕ). (title job ++ shared_body job.account openings earlier job) ++ text) (merged openings (earlier ++ job ∷ []) jobs)

pub sections_from_shares : SectionsFromShares
sections_from_shares openings jobs = sym (sections_in_order openings jobs) ∙ merged openings [] jobs

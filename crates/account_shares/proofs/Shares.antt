-- Shares of a batch's accounts.
use Rattle.std.proofs.Common.{◌≡◌, ℕ, zero, suc, ◌+◌, ◌-◌, ◌<◌, ◌≤◌, ◌==◌, ◌&&◌, Bool, true, false, cond, nat_le, List, [], ◌∷◌, ◌++◌, Option, Some, None, option_map, filter, fold, get_or, map, flat_map, slice_get, slice_index, slice_set, refl, sym, ap, ◌∙◌, arith, inl, inr}
use Rattle.std.specs.List.{enumerate_from}
use Rattle.std.proofs.lemmas.Bool.{cases_lt, ne_eqb}
use Rattle.std.proofs.lemmas.Bool.Decides.{nat_tests}
use Rattle.std.proofs.lemmas.Option.{same_Some}
use Rattle.deck_reader.specs.declared.batch.Account.{Account}
use Rattle.deck_reader.specs.declared.batch.Flaw.{Flaw}
use Rattle.deck_reader.specs.JobView.{JobView}
use Rattle.account_book.specs.BookView.{openings_of}
use Rattle.account_book.specs.Charges.{charge, reserve}
use Rattle.account_book.specs.Places.{account_by, after, balances_behind, is_on, place_balance, settled}
use Rattle.algolw_meaning.specs.Meaning.{JobResult}
use Rattle.algolw_meaning.specs.Running.{job_result}
use Rattle.batch_listing.specs.declared.verdict.Verdict.TheVariants.{Refused, Accepted}
use Rattle.algolw_meaning.specs.Charging.{charged}
use Rattle.batch_listing.specs.Listing.{body, closing_lines, verdict, verdict_by, section, sections}
use Rattle.batch_listing.specs.Texts.{heading, closing, closing_line, title}
use Rattle.batch_listing.proofs.Sections.{sections_behind, sections_in_order}
use Rattle.account_book.specs.OwnJobs.{as_own, is_of, jobs_on, numbered, own_jobs}
use Rattle.account_shares.specs.Own.{section_as}
use Rattle.batch_listing.specs.Listing.{closed_accounts}
use Rattle.account_shares.specs.Shares.{as_in, body_in, closing_in, divided_sections, is_in, jobs_in, number_in, numbered_in, part_from, sections_in, share_with}
use Rattle.account_shares.specs.ShareLaws.{OneAccountShare, SectionsFromDivision, ShareBalances, ShareBodies, ShareClosings, ShareListing, ShareOfNight, ShareSections}
use Rattle.account_statements.proofs.Balances.{more_behind, results_by_content}

-- ---- the accounts' numbers in a share

-- the next number
next_number : (own : Option ℕ → Bool) (n : ℕ) → number_in own (n + 1) ≡ number_in own n + cond (own (Some n)) 1 0
next_number own n = let e : n + 1 ≡ suc n = omega arith in ap (number_in own) e

grows : (own : Option ℕ → Bool) (m d : ℕ) → number_in own m ≤ number_in own (d + m)
grows own m zero =
    let e : 0 + m ≡ m = omega arith in
    let here : number_in own (0 + m) ≡ number_in own m = ap (number_in own) e in
    omega (arith, here)
grows own m (suc d) =
    let e : suc d + m ≡ suc (d + m) = omega arith in
    let here : number_in own (suc d + m) ≡ number_in own (d + m) + cond (own (Some (d + m))) 1 0 = ap (number_in own) e in
    let before = grows own m d in
    omega (arith, here, before)

pub next_own : (own : Option ℕ → Bool) (n : ℕ) → own (Some n) ≡ true → number_in own (n + 1) ≡ number_in own n + 1
next_own own n is = next_number own n ∙ ap (λ (b : Bool). number_in own n + cond b 1 0) is

pub next_other : (own : Option ℕ → Bool) (n : ℕ) → own (Some n) ≡ false → number_in own (n + 1) ≡ number_in own n
next_other own n is = let e : number_in own n + 0 ≡ number_in own n = omega arith in next_number own n ∙ ap (λ (b : Bool). number_in own n + cond b 1 0) is ∙ e

-- a later account has a greater number
apart : (own : Option ℕ → Bool) (m n : ℕ) → own (Some m) ≡ true → m < n → number_in own m < number_in own n
apart own m n is less =
    let place : (n - (m + 1)) + (m + 1) ≡ n = omega (arith, less) in
    let one = next_own own m is in
    let more = grows own (m + 1) (n - (m + 1)) in
    let there : number_in own ((n - (m + 1)) + (m + 1)) ≡ number_in own n = ap (number_in own) place in
    omega (arith, one, more, there)

same_numbers : (m n : ℕ) → (m == m) ≡ (n == n)
same_numbers m n = let one : (m == m) ≡ true = grind (arith, nat_tests) in let other : (n == n) ≡ true = grind (arith, nat_tests) in one ∙ sym other

-- so two of a share are one where their numbers are
same_test : (own : Option ℕ → Bool) (p a : ℕ) → own (Some p) ≡ true → own (Some a) ≡ true → (number_in own p == number_in own a) ≡ (p == a)
same_test own p a is is' = elim (cases_lt p a) [
  | inl h ↦ let less = apart own p a is h in ne_eqb (number_in own p) (number_in own a) (λ e. omega (arith, less, e)) ∙ sym (ne_eqb p a (λ e. omega (arith, h, e)))
  | inr h ↦ elim (cases_lt a p) [
    | inl h' ↦ let less = apart own a p is' h' in ne_eqb (number_in own p) (number_in own a) (λ e. omega (arith, less, e)) ∙ sym (ne_eqb p a (λ e. omega (arith, h', e)))
    | inr h' ↦ let same : p ≡ a = omega (arith, h, h') in ap (λ (n : ℕ). number_in own p == number_in own n) (sym same) ∙ same_numbers (number_in own p) p ∙ ap (λ (n : ℕ). p == n) same
  ]
]

-- one of a share isn't one that is not
other_test : (b : Bool) (own : Option ℕ → Bool) (p a : ℕ) → (p == a) ≡ b → own (Some p) ≡ false → own (Some a) ≡ true → (p == a) ≡ false
other_test false own p a test is is' = test
other_test true own p a test is is' =
    let same : p ≡ a = grind (arith, nat_tests) in
    let both : false ≡ true = sym is ∙ ap (λ (n : ℕ). own (Some n)) same ∙ is' in cc

-- ---- a part of a list

no_number : (own : Option ℕ → Bool) (n q : ℕ) → number_in own (n + 1) ≡ number_in own n + 1 → number_in own (q + (n + 1)) ≡ number_in own n → ⊥
no_number own n q one at = let more = grows own (n + 1) q in omega (arith, one, at, more)

part_by : (b : Bool) (own : Option ℕ → Bool) (x : ℕ) (xs : List ℕ) (n k q : ℕ) → own (Some n) ≡ b → number_in own (q + (n + 1)) ≡ k + number_in own n
    → ((k : ℕ) → number_in own (q + (n + 1)) ≡ k + number_in own (n + 1) → get_or (part_from own (n + 1) xs) k 0 ≡ get_or xs q 0)
    → get_or (cond b (x ∷ part_from own (n + 1) xs) (part_from own (n + 1) xs)) k 0 ≡ get_or xs q 0
part_by true own x xs n zero q is at rest = absurd (no_number own n q (next_own own n is) (omega (arith, at)))
part_by true own x xs n (suc k) q is at rest = let one = next_own own n is in rest k (omega (arith, one, at))
part_by false own x xs n k q is at rest = let none = next_other own n is in rest k (omega (arith, none, at))

part_first : (b : Bool) (own : Option ℕ → Bool) (x : ℕ) (xs : List ℕ) (n k : ℕ) → own (Some n) ≡ b → own (Some n) ≡ true → k ≡ 0
    → get_or (cond b (x ∷ part_from own (n + 1) xs) (part_from own (n + 1) xs)) k 0 ≡ x
part_first true own x xs n k is is' first = ap (λ (m : ℕ). get_or (x ∷ part_from own (n + 1) xs) m 0) first
part_first false own x xs n k is is' first = let both : false ≡ true = sym is ∙ is' in cc

part_at : (own : Option ℕ → Bool) (xs : List ℕ) (n k p : ℕ) → own (Some (p + n)) ≡ true → number_in own (p + n) ≡ k + number_in own n → get_or (part_from own n xs) k 0 ≡ get_or xs p 0
part_at own [] n k p is at = refl
part_at own (x ∷ xs) n k zero is at =
    let e : 0 + n ≡ n = omega arith in
    let here : number_in own (0 + n) ≡ number_in own n = ap (number_in own) e in
    part_first (own (Some n)) own x xs n k refl (ap (λ (m : ℕ). own (Some m)) (sym e) ∙ is) (omega (arith, at, here))
part_at own (x ∷ xs) n k (suc q) is at =
    let e : suc q + n ≡ q + (n + 1) = omega arith in
    let is' : own (Some (q + (n + 1))) ≡ true = ap (λ (m : ℕ). own (Some m)) (sym e) ∙ is in
    part_by (own (Some n)) own x xs n k q refl (ap (number_in own) (sym e) ∙ at) (λ j at'. part_at own xs (n + 1) j q is' at')

-- a share's table has the accounts' openings
pub opening_in : (own : Option ℕ → Bool) (openings : List ℕ) (account : ℕ) → own (Some account) ≡ true → slice_index (part_from own 0 openings) (number_in own account) ≡ slice_index openings account
opening_in own openings account is =
    let e : account + 0 ≡ account = omega arith in
    let here : number_in own (account + 0) ≡ number_in own account + number_in own 0 = ap (number_in own) e ∙ omega arith in
    part_at own openings 0 (number_in own account) account (ap (λ (m : ℕ). own (Some m)) e ∙ is) here

-- ---- balances

-- a claim of the share lowers a balance as it does in the batch
at_in : (own : Option ℕ → Bool) (flaw : Option Flaw) (payer : Option ℕ) (account balance most paid : ℕ) → own payer ≡ true → own (Some account) ≡ true
    → after (number_in own account) balance (record { account = account_by flaw (option_map (number_in own) payer); reserve = most }, paid) ≡ after account balance (record { account = account_by flaw payer; reserve = most }, paid)
at_in own (Some f) payer account balance most paid is is' = refl
at_in own None None account balance most paid is is' = refl
at_in own None (Some p) account balance most paid is is' = ap (λ (b : Bool). cond (b && nat_le most balance) (balance - paid) balance) (same_test own p account is is')

-- one of another share leaves it
at_out : (own : Option ℕ → Bool) (flaw : Option Flaw) (payer : Option ℕ) (account balance most paid : ℕ) → own payer ≡ false → own (Some account) ≡ true
    → after account balance (record { account = account_by flaw payer; reserve = most }, paid) ≡ balance
at_out own (Some f) payer account balance most paid is is' = refl
at_out own None None account balance most paid is is' = refl
at_out own None (Some p) account balance most paid is is' = ap (λ (b : Bool). cond (b && nat_le most balance) (balance - paid) balance) (other_test (p == account) own p account refl is is')

after_in : (own : Option ℕ → Bool) (account number balance : ℕ) (job : JobView) → is_in own job ≡ true → own (Some account) ≡ true → after (number_in own account) balance (charged (as_in own number job)) ≡ after account balance (charged job)
after_in own account number balance job is is' =
    ap (λ (r : JobResult). after (number_in own account) balance (record { account = account_by job.flaw (option_map (number_in own) job.account); reserve = reserve job }, charge r.counts))
    (results_by_content job number (option_map (number_in own) job.account))
    ∙ at_in own job.flaw job.account account balance (reserve job) (charge (job_result job).counts) is is'

fold_by : (b : Bool) (own : Option ℕ → Bool) (account number balance : ℕ) (job : JobView) (jobs : List JobView) → is_in own job ≡ b → own (Some account) ≡ true
    → ((number balance : ℕ) → fold (after (number_in own account)) balance (map charged (numbered_in own number (filter (is_in own) jobs))) ≡ fold (after account) balance (map charged jobs))
    → fold (after (number_in own account)) balance (map charged (numbered_in own number (cond b (job ∷ filter (is_in own) jobs) (filter (is_in own) jobs))))
    ≡ fold (after account) (after account balance (charged job)) (map charged jobs)
fold_by true own account number balance job jobs is is' rest =
    rest (number + 1) (after (number_in own account) balance (charged (as_in own number job)))
    ∙ ap (λ (n : ℕ). fold (after account) n (map charged jobs)) (after_in own account number balance job is is')
fold_by false own account number balance job jobs is is' rest =
    rest number balance
    ∙ ap (λ (n : ℕ). fold (after account) n (map charged jobs)) (sym (at_out own job.flaw job.account account balance (reserve job) (charge (job_result job).counts) is is'))

fold_in : (own : Option ℕ → Bool) (account : ℕ) (jobs : List JobView) → own (Some account) ≡ true → (number balance : ℕ)
    → fold (after (number_in own account)) balance (map charged (numbered_in own number (filter (is_in own) jobs))) ≡ fold (after account) balance (map charged jobs)
fold_in own account [] is number balance = refl
fold_in own account (job ∷ jobs) is number balance = fold_by (is_in own job) own account number balance job jobs refl is (fold_in own account jobs is)

pub share_balances : ShareBalances
share_balances own openings jobs account is =
    ap (λ (n : ℕ). fold (after (number_in own account)) n (map charged (jobs_in own jobs))) (opening_in own openings account is)
    ∙ fold_in own account jobs is 1 (slice_index openings account)

-- ---- bodies

-- the balances of the share's accounts are those of the batch
abbrev Agree : (Option ℕ → Bool) → (ℕ → ℕ) → (ℕ → ℕ) → Type 0
Agree own balance' balance = (account : ℕ) → own (Some account) ≡ true → balance' (number_in own account) ≡ balance account

accepted_in : (b : Bool) (account' account most balance : ℕ) (job' job : JobView) → (job_result job').body ≡ (job_result job).body
    → body (cond b (Accepted account') (Refused most balance)) job' ≡ body (cond b (Accepted account) (Refused most balance)) job
accepted_in true account' account most balance job' job same = same
accepted_in false account' account most balance job' job same = refl

alike_in : (own : Option ℕ → Bool) (flaw : Option Flaw) (payer : Option ℕ) (most : ℕ) (balance' balance : ℕ → ℕ) (job' job : JobView) → own payer ≡ true → Agree own balance' balance
    → (job_result job').body ≡ (job_result job).body
    → body (verdict_by flaw (option_map (number_in own) payer) most balance') job' ≡ body (verdict_by flaw payer most balance) job
alike_in own (Some f) payer most balance' balance job' job is left same = refl
alike_in own None None most balance' balance job' job is left same = refl
alike_in own None (Some p) most balance' balance job' job is left same =
    ap (λ (n : ℕ). body (cond (nat_le most n) (Accepted (number_in own p)) (Refused most n)) job') (left p is)
    ∙ accepted_in (nat_le most (balance p)) (number_in own p) p most (balance p) job' job same

body_alike : (own : Option ℕ → Bool) (balance' balance : ℕ → ℕ) (job : JobView) (number : ℕ) → own job.account ≡ true → Agree own balance' balance
    → body (verdict balance' (as_in own number job)) (as_in own number job) ≡ body (verdict balance job) job
body_alike own balance' balance job number is left =
    alike_in own job.flaw job.account (reserve job) balance' balance (as_in own number job) job is left
    (ap (λ (r : JobResult). r.body) (results_by_content job number (option_map (number_in own) job.account)))

pub share_bodies : ShareBodies
share_bodies own openings earlier job number is =
    body_alike own (place_balance (part_from own 0 openings) (map charged (jobs_in own earlier))) (place_balance openings (map charged earlier)) job number is (share_balances own openings earlier)

-- ---- sections

-- the balances behind the share's jobs are those behind all of them
abbrev AgreeBehind : (Option ℕ → Bool) → List ℕ → List JobView → List JobView → Type 0
AgreeBehind own openings mine earlier = Agree own (place_balance (part_from own 0 openings) (map charged mine)) (place_balance openings (map charged earlier))

agree_in : (own : Option ℕ → Bool) (openings : List ℕ) (number : ℕ) (mine earlier : List JobView) (job : JobView) → is_in own job ≡ true → AgreeBehind own openings mine earlier
    → AgreeBehind own openings (mine ++ as_in own number job ∷ []) (earlier ++ job ∷ [])
agree_in own openings number mine earlier job is agree account is' =
    more_behind (part_from own 0 openings) (number_in own account) mine (as_in own number job)
    ∙ ap (λ (n : ℕ). after (number_in own account) n (charged (as_in own number job))) (agree account is')
    ∙ after_in own account number (place_balance openings (map charged earlier) account) job is is'
    ∙ sym (more_behind openings account earlier job)

agree_out : (own : Option ℕ → Bool) (openings : List ℕ) (mine earlier : List JobView) (job : JobView) → is_in own job ≡ false → AgreeBehind own openings mine earlier
    → AgreeBehind own openings mine (earlier ++ job ∷ [])
agree_out own openings mine earlier job is agree account is' =
    agree account is'
    ∙ sym (at_out own job.flaw job.account account (place_balance openings (map charged earlier) account) (reserve job) (charge (job_result job).counts) is is')
    ∙ sym (more_behind openings account earlier job)

section_in : (own : Option ℕ → Bool) (openings : List ℕ) (number : ℕ) (mine earlier : List JobView) (job : JobView) → is_in own job ≡ true → AgreeBehind own openings mine earlier
    → section (part_from own 0 openings) mine (as_in own number job) ≡ section_as number openings earlier job
section_in own openings number mine earlier job is agree =
    ap (λ (text : List ℕ). title (record job { number = number }) ++ text)
    (body_alike own (place_balance (part_from own 0 openings) (map charged mine)) (place_balance openings (map charged earlier)) job number is agree)

behind_by : (b : Bool) (own : Option ℕ → Bool) (openings : List ℕ) (number : ℕ) (mine earlier : List JobView) (job : JobView) (jobs : List JobView) → is_in own job ≡ b → AgreeBehind own openings mine earlier
    → ((number : ℕ) (mine : List JobView) → AgreeBehind own openings mine (earlier ++ job ∷ [])
    → sections_behind (part_from own 0 openings) mine (numbered_in own number (filter (is_in own) jobs)) ≡ sections_in own number openings (earlier ++ job ∷ []) jobs)
    → sections_behind (part_from own 0 openings) mine (numbered_in own number (cond b (job ∷ filter (is_in own) jobs) (filter (is_in own) jobs)))
    ≡ cond b (section_as number openings earlier job ++ sections_in own (number + 1) openings (earlier ++ job ∷ []) jobs) (sections_in own number openings (earlier ++ job ∷ []) jobs)
behind_by true own openings number mine earlier job jobs is agree rest =
    ap (λ (text : List ℕ). text ++ sections_behind (part_from own 0 openings) (mine ++ as_in own number job ∷ []) (numbered_in own (number + 1) (filter (is_in own) jobs)))
    (section_in own openings number mine earlier job is agree)
    ∙ ap (λ (text : List ℕ). section_as number openings earlier job ++ text) (rest (number + 1) (mine ++ as_in own number job ∷ []) (agree_in own openings number mine earlier job is agree))
behind_by false own openings number mine earlier job jobs is agree rest = rest number mine (agree_out own openings mine earlier job is agree)

behind_in : (own : Option ℕ → Bool) (openings : List ℕ) (number : ℕ) (mine earlier jobs : List JobView) → AgreeBehind own openings mine earlier
    → sections_behind (part_from own 0 openings) mine (numbered_in own number (filter (is_in own) jobs)) ≡ sections_in own number openings earlier jobs
behind_in own openings number mine earlier [] agree = refl
behind_in own openings number mine earlier (job ∷ jobs) agree =
    behind_by (is_in own job) own openings number mine earlier job jobs refl agree (λ k ms. behind_in own openings k ms (earlier ++ job ∷ []) jobs)

pub share_sections : ShareSections
share_sections own openings jobs = sym (sections_in_order (part_from own 0 openings) (jobs_in own jobs)) ∙ behind_in own openings 1 [] [] jobs (opening_in own openings)

-- ---- the whole from the shares

itself : (n : ℕ) → (n == n) ≡ true
itself n = grind (arith, nat_tests)

divided : (division : Option ℕ → ℕ) (openings : List ℕ) (earlier jobs : List JobView) → sections_behind openings earlier jobs ≡ divided_sections division openings earlier jobs
divided division openings earlier [] = refl
divided division openings earlier (job ∷ jobs) =
    ap (λ (text : List ℕ). (title job ++ text) ++ sections_behind openings (earlier ++ job ∷ []) jobs)
    (sym (share_bodies (share_with division job.account) openings earlier job 1 (itself (division job.account))))
    ∙ ap (λ (text : List ℕ). (title job ++ body_in (share_with division job.account) openings earlier job) ++ text) (divided division openings (earlier ++ job ∷ []) jobs)

pub sections_from_division : SectionsFromDivision
sections_from_division division openings jobs = sym (sections_in_order openings jobs) ∙ divided division openings [] jobs

-- ---- the listing of a share

openings_by : (b : Bool) (own : Option ℕ → Bool) (a : Account) (accounts : List Account) (n : ℕ)
    → openings_of (part_from own (n + 1) accounts) ≡ part_from own (n + 1) (openings_of accounts)
    → openings_of (cond b (a ∷ part_from own (n + 1) accounts) (part_from own (n + 1) accounts))
    ≡ cond b (a.opening ∷ part_from own (n + 1) (openings_of accounts)) (part_from own (n + 1) (openings_of accounts))
openings_by true own a accounts n rest = ap (λ (xs : List ℕ). a.opening ∷ xs) rest
openings_by false own a accounts n rest = rest

pub openings_in : (own : Option ℕ → Bool) (accounts : List Account) (n : ℕ) → openings_of (part_from own n accounts) ≡ part_from own n (openings_of accounts)
openings_in own [] n = refl
openings_in own (a ∷ accounts) n = openings_by (own (Some n)) own a accounts n (openings_in own accounts (n + 1))

-- a line for each account, with its balance
abbrev lines_with : (ℕ → ℕ) → ℕ → List Account → List ℕ
lines_with balance n accounts = flat_map (λ p. closing_line p.1 (balance p.0)) (enumerate_from n accounts)

lines_by : (b : Bool) (own : Option ℕ → Bool) (balance' : ℕ → ℕ) (openings : List ℕ) (jobs : List JobView) (a : Account) (accounts : List Account) (n : ℕ) → own (Some n) ≡ b
    → Agree own balance' (place_balance openings (map charged jobs))
    → lines_with balance' (number_in own (n + 1)) (part_from own (n + 1) accounts) ≡ closing_in own (n + 1) openings jobs accounts
    → lines_with balance' (number_in own n) (cond b (a ∷ part_from own (n + 1) accounts) (part_from own (n + 1) accounts))
    ≡ cond b (closing_line a (place_balance openings (map charged jobs) n) ++ closing_in own (n + 1) openings jobs accounts) (closing_in own (n + 1) openings jobs accounts)
lines_by true own balance' openings jobs a accounts n is agree rest =
    ap (λ (left : ℕ). closing_line a left ++ lines_with balance' (number_in own n + 1) (part_from own (n + 1) accounts)) (agree n is)
    ∙ ap (λ (m : ℕ). closing_line a (place_balance openings (map charged jobs) n) ++ lines_with balance' m (part_from own (n + 1) accounts)) (sym (next_own own n is))
    ∙ ap (λ (text : List ℕ). closing_line a (place_balance openings (map charged jobs) n) ++ text) rest
lines_by false own balance' openings jobs a accounts n is agree rest =
    ap (λ (m : ℕ). lines_with balance' m (part_from own (n + 1) accounts)) (sym (next_other own n is)) ∙ rest

lines_in : (own : Option ℕ → Bool) (balance' : ℕ → ℕ) (openings : List ℕ) (jobs : List JobView) (accounts : List Account) (n : ℕ) → Agree own balance' (place_balance openings (map charged jobs))
    → lines_with balance' (number_in own n) (part_from own n accounts) ≡ closing_in own n openings jobs accounts
lines_in own balance' openings jobs [] n agree = refl
lines_in own balance' openings jobs (a ∷ accounts) n agree =
    lines_by (own (Some n)) own balance' openings jobs a accounts n refl agree (lines_in own balance' openings jobs accounts (n + 1) agree)

pub share_listing : ShareListing
share_listing own b =
    let openings = openings_of b.accounts in
    let mine = jobs_in own b.jobs in
    let part = part_from own 0 b.accounts in
    ap (λ (xs : List ℕ). heading ++ sections xs mine ++ closing (closing_lines xs mine part) 0) (openings_in own b.accounts 0)
    ∙ ap (λ (text : List ℕ). heading ++ text ++ closing (closing_lines (part_from own 0 openings) mine part) 0) (share_sections own openings b.jobs)
    ∙ ap (λ (lines : List ℕ). heading ++ sections_in own 1 openings [] b.jobs ++ closing lines 0)
    (lines_in own (place_balance (part_from own 0 openings) (map charged mine)) openings b.jobs b.accounts 0 (share_balances own openings b.jobs))

-- ---- one account is a share

none_below : (account n : ℕ) → n ≤ account → number_in (is_on account) n ≡ 0
none_below account zero less = refl
none_below account (suc n) less =
    let before = none_below account n (omega (arith, less)) in
    let other : (n == account) ≡ false = ne_eqb n account (λ e. omega (arith, less, e)) in
    let here : number_in (is_on account) n + cond (n == account) 1 0 ≡ number_in (is_on account) n + 0 = ap (λ (b : Bool). number_in (is_on account) n + cond b 1 0) other in
    omega (arith, before, here)

first_number : (account : ℕ) → number_in (is_on account) account ≡ 0
first_number account = none_below account account (omega arith)

own_payer : (account : ℕ) (payer : Option ℕ) → is_on account payer ≡ true → option_map (number_in (is_on account)) payer ≡ Some 0
own_payer account None is = cc
own_payer account (Some p) is =
    let same : p ≡ account = grind (arith, nat_tests) in
    ap (λ (n : ℕ). Some (number_in (is_on account) n)) same ∙ ap (λ (n : ℕ). Some n) (first_number account)

one_by : (b : Bool) (account number : ℕ) (job : JobView) (jobs : List JobView) → is_of account job ≡ b
    → ((number : ℕ) → numbered_in (is_on account) number (filter (is_in (is_on account)) jobs) ≡ numbered number (jobs_on account jobs))
    → numbered_in (is_on account) number (cond b (job ∷ filter (is_in (is_on account)) jobs) (filter (is_in (is_on account)) jobs)) ≡ numbered number (cond b (job ∷ jobs_on account jobs) (jobs_on account jobs))
one_by true account number job jobs is rest =
    ap (λ (payer : Option ℕ). record job { number = number; account = payer } ∷ numbered_in (is_on account) (number + 1) (filter (is_in (is_on account)) jobs)) (own_payer account job.account is)
    ∙ ap (λ (js : List JobView). as_own number job ∷ js) (rest (number + 1))
one_by false account number job jobs is rest = rest number

one_account : (account : ℕ) (jobs : List JobView) (number : ℕ) → numbered_in (is_on account) number (filter (is_in (is_on account)) jobs) ≡ numbered number (jobs_on account jobs)
one_account account [] number = refl
one_account account (job ∷ jobs) number = one_by (is_of account job) account number job jobs refl (one_account account jobs)

none_past : (account n : ℕ) (xs : List Account) → account < n → part_from (is_on account) n xs ≡ []
none_past account n [] less = refl
none_past account n (x ∷ xs) less =
    ap (λ (b : Bool). cond b (x ∷ part_from (is_on account) (n + 1) xs) (part_from (is_on account) (n + 1) xs)) (ne_eqb n account (λ e. omega (arith, less, e)))
    ∙ none_past account (n + 1) xs (omega (arith, less))

alone : (account n p : ℕ) (xs : List Account) (a : Account) → account ≡ p + n → slice_get xs p ≡ Some a → part_from (is_on account) n xs ≡ a ∷ []
alone account n p [] a place at = cc
alone account n zero (x ∷ xs) a place at =
    let same : account ≡ n = omega (arith, place) in
    ap (λ (m : ℕ). cond (n == m) (x ∷ part_from (is_on account) (n + 1) xs) (part_from (is_on account) (n + 1) xs)) same
    ∙ ap (λ (b : Bool). cond b (x ∷ part_from (is_on account) (n + 1) xs) (part_from (is_on account) (n + 1) xs)) (itself n)
    ∙ ap (λ (ys : List Account). x ∷ ys) (none_past account (n + 1) xs (omega (arith, same)))
    ∙ ap (λ (y : Account). y ∷ []) (same_Some _ _ at)
alone account n (suc q) (x ∷ xs) a place at =
    ap (λ (b : Bool). cond b (x ∷ part_from (is_on account) (n + 1) xs) (part_from (is_on account) (n + 1) xs)) (ne_eqb n account (λ e. omega (arith, place, e)))
    ∙ alone account (n + 1) q xs a (omega (arith, place)) at

pub one_account_share : OneAccountShare
one_account_share b account a at =
    let accounts : part_from (is_on account) 0 b.accounts ≡ a ∷ [] = alone account 0 account b.accounts a (omega arith) at in
    let jobs : jobs_in (is_on account) b.jobs ≡ own_jobs account b.jobs = one_account account b.jobs 1 in
    λ i. record { accounts = accounts i; jobs = jobs i; stray = 0 }

-- ---- what a share leaves

set_by : (b : Bool) (own : Option ℕ → Bool) (x : ℕ) (xs : List ℕ) (n k q v : ℕ) → own (Some n) ≡ b → number_in own (q + (n + 1)) ≡ k + number_in own n
    → ((k : ℕ) → number_in own (q + (n + 1)) ≡ k + number_in own (n + 1) → slice_set (part_from own (n + 1) xs) k v ≡ part_from own (n + 1) (slice_set xs q v))
    → slice_set (cond b (x ∷ part_from own (n + 1) xs) (part_from own (n + 1) xs)) k v ≡ cond b (x ∷ part_from own (n + 1) (slice_set xs q v)) (part_from own (n + 1) (slice_set xs q v))
set_by true own x xs n zero q v is at rest = absurd (no_number own n q (next_own own n is) (omega (arith, at)))
set_by true own x xs n (suc k) q v is at rest = let one = next_own own n is in ap (λ (ys : List ℕ). x ∷ ys) (rest k (omega (arith, one, at)))
set_by false own x xs n k q v is at rest = let none = next_other own n is in rest k (omega (arith, none, at))

set_first : (b : Bool) (own : Option ℕ → Bool) (x : ℕ) (xs : List ℕ) (n k v : ℕ) → own (Some n) ≡ b → own (Some n) ≡ true → k ≡ 0
    → slice_set (cond b (x ∷ part_from own (n + 1) xs) (part_from own (n + 1) xs)) k v ≡ cond b (v ∷ part_from own (n + 1) xs) (part_from own (n + 1) xs)
set_first true own x xs n k v is is' first = ap (λ (m : ℕ). slice_set (x ∷ part_from own (n + 1) xs) m v) first
set_first false own x xs n k v is is' first = let both : false ≡ true = sym is ∙ is' in cc

set_at : (own : Option ℕ → Bool) (xs : List ℕ) (n k p v : ℕ) → own (Some (p + n)) ≡ true → number_in own (p + n) ≡ k + number_in own n → slice_set (part_from own n xs) k v ≡ part_from own n (slice_set xs p v)
set_at own [] n k p v is at = refl
set_at own (x ∷ xs) n k zero v is at =
    let e : 0 + n ≡ n = omega arith in
    let here : number_in own (0 + n) ≡ number_in own n = ap (number_in own) e in
    set_first (own (Some n)) own x xs n k v refl (ap (λ (m : ℕ). own (Some m)) (sym e) ∙ is) (omega (arith, at, here))
set_at own (x ∷ xs) n k (suc q) v is at =
    let e : suc q + n ≡ q + (n + 1) = omega arith in
    let is' : own (Some (q + (n + 1))) ≡ true = ap (λ (m : ℕ). own (Some m)) (sym e) ∙ is in
    set_by (own (Some n)) own x xs n k q v refl (ap (number_in own) (sym e) ∙ at) (λ j at'. set_at own xs (n + 1) j q v is' at')

set_in : (own : Option ℕ → Bool) (xs : List ℕ) (p v : ℕ) → own (Some p) ≡ true → slice_set (part_from own 0 xs) (number_in own p) v ≡ part_from own 0 (slice_set xs p v)
set_in own xs p v is =
    let e : p + 0 ≡ p = omega arith in
    let here : number_in own (p + 0) ≡ number_in own p + number_in own 0 = ap (number_in own) e ∙ omega arith in
    set_at own xs 0 (number_in own p) p v (ap (λ (m : ℕ). own (Some m)) e ∙ is) here

-- a place of another share is not in the part
set_past_by : (b : Bool) (own : Option ℕ → Bool) (x v : ℕ) (xs : List ℕ) (n : ℕ) → own (Some n) ≡ b → own (Some n) ≡ false
    → cond b (v ∷ part_from own (n + 1) xs) (part_from own (n + 1) xs) ≡ cond b (x ∷ part_from own (n + 1) xs) (part_from own (n + 1) xs)
set_past_by true own x v xs n is is' = let both : true ≡ false = sym is ∙ is' in cc
set_past_by false own x v xs n is is' = refl

set_out_at : (own : Option ℕ → Bool) (xs : List ℕ) (n p v : ℕ) → own (Some (p + n)) ≡ false → part_from own n (slice_set xs p v) ≡ part_from own n xs
set_out_at own [] n p v is = refl
set_out_at own (x ∷ xs) n zero v is = let e : 0 + n ≡ n = omega arith in set_past_by (own (Some n)) own x v xs n refl (ap (λ (m : ℕ). own (Some m)) (sym e) ∙ is)
set_out_at own (x ∷ xs) n (suc q) v is =
    let e : suc q + n ≡ q + (n + 1) = omega arith in
    ap (λ (ys : List ℕ). cond (own (Some n)) (x ∷ ys) ys) (set_out_at own xs (n + 1) q v (ap (λ (m : ℕ). own (Some m)) (sym e) ∙ is))

set_out : (own : Option ℕ → Bool) (xs : List ℕ) (p v : ℕ) → own (Some p) ≡ false → part_from own 0 (slice_set xs p v) ≡ part_from own 0 xs
set_out own xs p v is = let e : p + 0 ≡ p = omega arith in set_out_at own xs 0 p v (ap (λ (m : ℕ). own (Some m)) e ∙ is)

lowered_in : (b : Bool) (own : Option ℕ → Bool) (xs : List ℕ) (p v : ℕ) → own (Some p) ≡ true
    → cond b (slice_set (part_from own 0 xs) (number_in own p) v) (part_from own 0 xs) ≡ part_from own 0 (cond b (slice_set xs p v) xs)
lowered_in true own xs p v is = set_in own xs p v is
lowered_in false own xs p v is = refl

lowered_out : (b : Bool) (own : Option ℕ → Bool) (xs : List ℕ) (p v : ℕ) → own (Some p) ≡ false → part_from own 0 (cond b (slice_set xs p v) xs) ≡ part_from own 0 xs
lowered_out true own xs p v is = set_out own xs p v is
lowered_out false own xs p v is = refl

-- a claim of the share lowers the part as it lowers the table
settled_in : (own : Option ℕ → Bool) (flaw : Option Flaw) (payer : Option ℕ) (xs : List ℕ) (most paid : ℕ) → own payer ≡ true
    → settled (part_from own 0 xs) (record { account = account_by flaw (option_map (number_in own) payer); reserve = most }, paid) ≡ part_from own 0 (settled xs (record { account = account_by flaw payer; reserve = most }, paid))
settled_in own (Some f) payer xs most paid is = refl
settled_in own None None xs most paid is = refl
settled_in own None (Some p) xs most paid is =
    ap (λ (n : ℕ). cond (nat_le most n) (slice_set (part_from own 0 xs) (number_in own p) (n - paid)) (part_from own 0 xs)) (opening_in own xs p is)
    ∙ lowered_in (nat_le most (slice_index xs p)) own xs p (slice_index xs p - paid) is

settled_out : (own : Option ℕ → Bool) (flaw : Option Flaw) (payer : Option ℕ) (xs : List ℕ) (most paid : ℕ) → own payer ≡ false
    → part_from own 0 (settled xs (record { account = account_by flaw payer; reserve = most }, paid)) ≡ part_from own 0 xs
settled_out own (Some f) payer xs most paid is = refl
settled_out own None None xs most paid is = refl
settled_out own None (Some p) xs most paid is = lowered_out (nat_le most (slice_index xs p)) own xs p (slice_index xs p - paid) is

table_by : (b : Bool) (own : Option ℕ → Bool) (job : JobView) (jobs : List JobView) (number : ℕ) (xs : List ℕ) → is_in own job ≡ b
    → ((number : ℕ) (xs : List ℕ) → balances_behind (part_from own 0 xs) (map charged (numbered_in own number (filter (is_in own) jobs))) ≡ part_from own 0 (balances_behind xs (map charged jobs)))
    → balances_behind (part_from own 0 xs) (map charged (numbered_in own number (cond b (job ∷ filter (is_in own) jobs) (filter (is_in own) jobs))))
    ≡ part_from own 0 (balances_behind (settled xs (charged job)) (map charged jobs))
table_by true own job jobs number xs is rest =
    ap (λ (r : JobResult). balances_behind (settled (part_from own 0 xs) (record { account = account_by job.flaw (option_map (number_in own) job.account); reserve = reserve job }, charge r.counts)) (map charged (numbered_in own (number + 1) (filter (is_in own) jobs))))
    (results_by_content job number (option_map (number_in own) job.account))
    ∙ ap (λ (ys : List ℕ). balances_behind ys (map charged (numbered_in own (number + 1) (filter (is_in own) jobs)))) (settled_in own job.flaw job.account xs (reserve job) (charge (job_result job).counts) is)
    ∙ rest (number + 1) (settled xs (charged job))
table_by false own job jobs number xs is rest =
    ap (λ (ys : List ℕ). balances_behind ys (map charged (numbered_in own number (filter (is_in own) jobs)))) (sym (settled_out own job.flaw job.account xs (reserve job) (charge (job_result job).counts) is))
    ∙ rest number (settled xs (charged job))

table_in : (own : Option ℕ → Bool) (jobs : List JobView) (number : ℕ) (xs : List ℕ)
    → balances_behind (part_from own 0 xs) (map charged (numbered_in own number (filter (is_in own) jobs))) ≡ part_from own 0 (balances_behind xs (map charged jobs))
table_in own [] number xs = refl
table_in own (job ∷ jobs) number xs = table_by (is_in own job) own job jobs number xs refl (table_in own jobs)

pub share_closings : ShareClosings
share_closings own openings jobs = table_in own jobs 1 openings

-- ---- a share of a later night

-- the accounts with these balances as their openings
abbrev opened_with : (ℕ → ℕ) → ℕ → List Account → List Account
opened_with balance n accounts = map (λ p. record { name = p.1.name; opening = balance p.0 }) (enumerate_from n accounts)

closed_by : (b : Bool) (own : Option ℕ → Bool) (balance' balance : ℕ → ℕ) (a : Account) (accounts : List Account) (n : ℕ) → own (Some n) ≡ b → Agree own balance' balance
    → part_from own (n + 1) (opened_with balance (n + 1) accounts) ≡ opened_with balance' (number_in own (n + 1)) (part_from own (n + 1) accounts)
    → cond b (record { name = a.name; opening = balance n } ∷ part_from own (n + 1) (opened_with balance (n + 1) accounts)) (part_from own (n + 1) (opened_with balance (n + 1) accounts))
    ≡ opened_with balance' (number_in own n) (cond b (a ∷ part_from own (n + 1) accounts) (part_from own (n + 1) accounts))
closed_by true own balance' balance a accounts n is agree rest =
    ap (λ (left : ℕ). record { name = a.name; opening = left } ∷ part_from own (n + 1) (opened_with balance (n + 1) accounts)) (sym (agree n is))
    ∙ ap (λ (xs : List Account). record { name = a.name; opening = balance' (number_in own n) } ∷ xs) rest
    ∙ ap (λ (m : ℕ). record { name = a.name; opening = balance' (number_in own n) } ∷ opened_with balance' m (part_from own (n + 1) accounts)) (next_own own n is)
closed_by false own balance' balance a accounts n is agree rest =
    rest ∙ ap (λ (m : ℕ). opened_with balance' m (part_from own (n + 1) accounts)) (next_other own n is)

closed_in : (own : Option ℕ → Bool) (balance' balance : ℕ → ℕ) (accounts : List Account) (n : ℕ) → Agree own balance' balance
    → part_from own n (opened_with balance n accounts) ≡ opened_with balance' (number_in own n) (part_from own n accounts)
closed_in own balance' balance [] n agree = refl
closed_in own balance' balance (a ∷ accounts) n agree =
    closed_by (own (Some n)) own balance' balance a accounts n refl agree (closed_in own balance' balance accounts (n + 1) agree)

pub share_of_night : ShareOfNight
share_of_night own accounts earlier jobs =
    let openings = openings_of accounts in
    let part = part_from own 0 accounts in
    let mine = jobs_in own earlier in
    ap (λ (xs : List Account). record { accounts = xs; jobs = jobs_in own jobs; stray = 0 })
    (closed_in own (place_balance (part_from own 0 openings) (map charged mine)) (place_balance openings (map charged earlier)) accounts 0 (share_balances own openings earlier)
    ∙ ap (λ (xs : List ℕ). closed_accounts xs mine part) (sym (openings_in own accounts 0)))

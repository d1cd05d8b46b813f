-- A batch of one account's cards.
use Rattle.std.proofs.Common.{◌≡◌, ℕ, suc, zero, ◌+◌, ◌<◌, ◌≤◌, ◌&&◌, ◌||◌, not, Bool, true, false, cond, nat_lt, List, [], ◌∷◌, ◌++◌, Option, Some, None, Result, Ok, Err, length, take, get_or, map, filter, flat_map, codes, refl, sym, ap, ◌∙◌, arith, append-nil, sum_by, slice_get, slice_index}
use Rattle.std.specs.List.{list_any, position_or_len, cons_option, list_all}
use Rattle.std.specs.Option.{is_some, option_map}
use Rattle.std.specs.Str.{bytes_eq}
use Rattle.std.proofs.lemmas.Bool.Decides.{nat_tests}
use Rattle.std.proofs.lemmas.List.{take-map, take-take}
use Rattle.std.proofs.lemmas.List.Sums.{passes_at_first, sum_by-cons}
use Rattle.std.proofs.lemmas.Option.{slice_get-get_or, same_Some}
use Rattle.std.proofs.lemmas.Slice.Eq.{bytes_eq-Decides}
use Rattle.deck_reader.specs.declared.batch.Account.{Account}
use Rattle.deck_reader.specs.declared.batch.Flaw.TheVariants as flaws
use Rattle.deck_reader.specs.declared.forms.JobCard.{JobCard}
use Rattle.deck_reader.specs.declared.forms.AccountCard.{AccountCard}
use Rattle.deck_reader.specs.JobView.{JobView}
use Rattle.deck_reader.specs.declared.batch.Flaw.{Flaw}
use Rattle.deck_reader.specs.Forms.{capital, folded, is_account, is_control, is_control_card, is_data, is_end, is_head, is_library}
use Rattle.deck_reader.specs.JobCards.{job_card}
use Rattle.deck_reader.specs.Options.{is_in_range, unset}
use Rattle.deck_reader.specs.LibraryView.{LibraryView}
use Rattle.deck_reader.specs.Batch.{Front, Run, account_for, account_of, account_on, batch_of, before_head, body, first_of_each_name, flawed, front_of, job_from, job_of, job_on, jobs_of, libraries_in, library_for, opened, outside, runs, shelf_cards, shelved, strays, written}
use Rattle.deck_reader.specs.CardFlaws.{is_long, is_foul}
use Rattle.deck_reader.proofs.Firsts.{after-none, before-none}
use Rattle.account_book.specs.BookView.{openings_of}
use Rattle.account_book.specs.Places.{is_on, place_balance}
use Rattle.algolw_meaning.specs.Charging.{charged}
use Rattle.batch_listing.specs.Listing.{closing_lines, listing_of, sections}
use Rattle.batch_listing.specs.Texts.{heading, closing, closing_line}
use Rattle.account_book.specs.OwnJobs.{as_own, is_of, jobs_on, numbered, own_jobs}
use Rattle.account_shares.specs.Own.{job_cards, kept_library_cards, own_cards, own_sections, runs_on}
use Rattle.account_shares.specs.Laws.{FlawsOrAccounts, OwnBatch, OwnListing}
use Rattle.account_statements.proofs.Balances.{own_balances}
use Rattle.account_shares.proofs.Firsts.{any_take, before-at_once, before-clear, before-past_all, neither_of}
use Rattle.account_shares.proofs.Kept.{account_no_library, all_counted, libraries_behind, no_heads, no_openings, one_if_written}
use Rattle.account_shares.proofs.Money.{own_sections_alike}

-- ---- runs

pub runs_past : (xs ys : List (List ℕ)) → list_any is_head xs ≡ false → runs (xs ++ ys) ≡ runs ys
runs_past [] ys h = refl
runs_past (x ∷ xs) ys h =
    let parts = neither_of (is_head x) (list_any is_head xs) h in
    ap (λ (b : Bool). cond b (record { head = x; behind = before_head (xs ++ ys) } ∷ runs (xs ++ ys)) (runs (xs ++ ys))) parts.0 ∙ runs_past xs ys parts.1

-- a head, and behind it no other
pub record IsRun (run : Run) : Type 0 where
  pub head_is : is_head run.head ≡ true
  pub none : list_any is_head run.behind ≡ false

abbrev pub AreRuns : List Run → Type 0
AreRuns [] = Unit {0}
AreRuns (run ∷ rest) = IsRun run × AreRuns rest

runs_are_by : (b : Bool) (card : List ℕ) (cards : List (List ℕ)) → is_head card ≡ b → AreRuns (runs cards) → AreRuns (cond b (record { head = card; behind = before_head cards } ∷ runs cards) (runs cards))
runs_are_by true card cards is rest = (record { head_is = is; none = before-clear is_head cards }, rest)
runs_are_by false card cards is rest = rest

pub runs_are : (cards : List (List ℕ)) → AreRuns (runs cards)
runs_are [] = tt
runs_are (card ∷ cards) = runs_are_by (is_head card) card cards refl (runs_are cards)

some_are_by : (b : Bool) (test : Run → Bool) (run : Run) (rest : List Run) → IsRun run → AreRuns (filter test rest) → AreRuns (cond b (run ∷ filter test rest) (filter test rest))
some_are_by true test run rest is are = (is, are)
some_are_by false test run rest is are = are

pub some_are : (test : Run → Bool) (rs : List Run) → AreRuns rs → AreRuns (filter test rs)
some_are test [] are = tt
some_are test (run ∷ rs) are = some_are_by (test run) test run rs are.0 (some_are test rs are.1)

-- a run up to its first end card
abbrev pub closed : Run → Run
closed run = record { head = run.head; behind = body run }

no_head_in : (run : Run) → IsRun run → list_any is_head (body run) ≡ false
no_head_in run is = any_take is_head (position_or_len is_end run.behind) run.behind is.none

pub first_is_head : (rs : List Run) → AreRuns rs → before_head (flat_map job_cards rs) ≡ []
first_is_head [] are = refl
first_is_head (run ∷ rs) are = before-at_once is_head run.head (body run ++ flat_map job_cards rs) are.0.head_is

-- the runs of the jobs' cards are those of the jobs
pub runs_again : (rs : List Run) → AreRuns rs → runs (flat_map job_cards rs) ≡ map closed rs
runs_again [] are = refl
runs_again (run ∷ rs) are =
    let rest = flat_map job_cards rs in
    ap (λ (b : Bool). cond b (record { head = run.head; behind = before_head (body run ++ rest) } ∷ runs (body run ++ rest)) (runs (body run ++ rest))) are.0.head_is
    ∙ ap (λ (cards : List (List ℕ)). record { head = run.head; behind = cards } ∷ runs (body run ++ rest))
    (before-past_all is_head (body run) rest (no_head_in run are.0) ∙ ap (λ (cards : List (List ℕ)). body run ++ cards) (first_is_head rs are.1) ∙ append-nil (body run))
    ∙ ap (λ (rs' : List Run). closed run ∷ rs') (runs_past (body run) rest (no_head_in run are.0) ∙ runs_again rs are.1)

pub body_again : (run : Run) → body (closed run) ≡ body run
body_again run = before-none is_end (body run) (before-clear is_end run.behind)

pub none_outside : (rs : List Run) → sum_by (λ run. written (outside run)) (map closed rs) ≡ 0
none_outside [] = refl
none_outside (run ∷ rs) =
    let here : written (outside (closed run)) ≡ 0 = ap written (after-none is_end (body run) (before-clear is_end run.behind)) in
    sum_by-cons (λ r. written (outside r)) (closed run) (map closed rs) ∙ omega (arith, here, none_outside rs)

-- ---- the account of a job card

found_there : (b : Bool) (accounts : List Account) (name : List ℕ) (account : ℕ) (a : Account) → nat_lt (position_or_len (λ x. bytes_eq x.name name) accounts) (length accounts) ≡ b
    → cond b (Some (position_or_len (λ x. bytes_eq x.name name) accounts)) None ≡ Some account → slice_get accounts account ≡ Some a → bytes_eq a.name name ≡ true
found_there false accounts name account a is found at = cc
found_there true accounts name account a is found at =
    let test : Account → Bool = λ x. bytes_eq x.name name in
    let place : position_or_len test accounts ≡ account = same_Some _ _ found in
    let less : position_or_len test accounts < length accounts = grind (arith, nat_tests) in
    let there : get_or accounts (position_or_len test accounts) a ≡ a =
    same_Some _ _ (sym (slice_get-get_or accounts (position_or_len test accounts) a less) ∙ ap (slice_get accounts) place ∙ at) in
    ap test (sym there) ∙ passes_at_first test accounts a less

-- an account that was found by its number has the name
name_found : (accounts : List Account) (name : List ℕ) (account : ℕ) (a : Account) → account_of accounts name ≡ Some account → slice_get accounts account ≡ Some a → bytes_eq a.name name ≡ true
name_found accounts name account a found at = found_there (nat_lt (position_or_len (λ x. bytes_eq x.name name) accounts) (length accounts)) accounts name account a refl found at

-- so it is the first of a list of its own
pub first_of_own : (accounts : List Account) (name : List ℕ) (account : ℕ) (a : Account) → account_of accounts name ≡ Some account → slice_get accounts account ≡ Some a → account_of (a ∷ []) name ≡ Some 0
first_of_own accounts name account a found at =
    ap (λ (b : Bool). cond (nat_lt (cond (not b) (1 + 0) 0) 1) (Some (cond (not b) (1 + 0) 0)) None) (name_found accounts name account a found at)

-- ---- jobs

-- the library that a job card names, or its flaw
abbrev pub Found : Type 0
Found = Result (Option LibraryView) Flaw

-- what stands on a job card, by two tests
abbrev pub read_job : Bool → Bool → ℕ → ℕ → JobCard → Option ℕ → Found → List (List ℕ) → List (List ℕ) → JobView
read_job ranged many number count card account library deck data_cards =
    cond ranged (cond many (flawed number count card account card.settings flaws.TooManyCards) (job_on number count card account library deck data_cards)) (flawed number count card account unset flaws.NumberOutOfRange)

account_by_ranges : (ranged many : Bool) (n m count : ℕ) (c : JobCard) (account : Option ℕ) (library : Found) (deck data_cards : List (List ℕ))
    → (read_job ranged many n count c account library deck data_cards).account ≡ (read_job ranged many m count c account library deck data_cards).account
account_by_ranges false many n m count c account library deck data_cards = refl
account_by_ranges true true n m count c account library deck data_cards = refl
account_by_ranges true false n m count c None library deck data_cards = refl
account_by_ranges true false n m count c (Some p) (Ok library) deck data_cards = refl
account_by_ranges true false n m count c (Some p) (Err flaw) deck data_cards = refl

-- the account of a job doesn't depend on its number
pub account_by_any : (n m count : ℕ) (long foul : Bool) (card : Option JobCard) (account : Option ℕ) (library : Found) (deck data_cards : List (List ℕ))
    → (job_from n count long foul card account library deck data_cards).account ≡ (job_from m count long foul card account library deck data_cards).account
account_by_any n m count true foul card account library deck data_cards = refl
account_by_any n m count false true card account library deck data_cards = refl
account_by_any n m count false false None account library deck data_cards = refl
account_by_any n m count false false (Some c) account library deck data_cards = account_by_ranges (is_in_range c.settings) (nat_lt 2000 count) n m count c account library deck data_cards

some_account : (account : ℕ) (payer : Option ℕ) → is_on account payer ≡ true → payer ≡ Some account
some_account account None h = cc
some_account account (Some p) h = let same : p ≡ account = grind (arith, nat_tests) in ap (λ (n : ℕ). Some n) same

-- a job that can be read has the account of its card, where it has any
paid_by : (ranged many : Bool) (account count : ℕ) (c : JobCard) (payer : Option ℕ) (library : Found) (deck data_cards : List (List ℕ)) → is_on account (read_job ranged many 0 count c payer library deck data_cards).account ≡ true → payer ≡ Some account
paid_by false many account count c payer library deck data_cards h = some_account account payer h
paid_by true true account count c payer library deck data_cards h = some_account account payer h
paid_by true false account count c None library deck data_cards h = cc
paid_by true false account count c (Some p) (Ok library) deck data_cards h = some_account account (Some p) h
paid_by true false account count c (Some p) (Err flaw) deck data_cards h = some_account account (Some p) h

as_own_read : (ranged many : Bool) (n m count : ℕ) (c : JobCard) (account : ℕ) (library : Found) (deck data_cards : List (List ℕ)) → read_job ranged many n count c (Some 0) library deck data_cards ≡ as_own n (read_job ranged many m count c (Some account) library deck data_cards)
as_own_read false many n m count c account library deck data_cards = refl
as_own_read true true n m count c account library deck data_cards = refl
as_own_read true false n m count c account (Ok library) deck data_cards = refl
as_own_read true false n m count c account (Err flaw) deck data_cards = refl

own_job : (long foul : Bool) (card : Option JobCard) (accounts : List Account) (account : ℕ) (a : Account) (n m count : ℕ) (library : Found) (deck data_cards : List (List ℕ)) → slice_get accounts account ≡ Some a
    → is_on account (job_from 0 count long foul card (account_for accounts card) library deck data_cards).account ≡ true
    → job_from n count long foul card (account_for (a ∷ []) card) library deck data_cards ≡ as_own n (job_from m count long foul card (account_for accounts card) library deck data_cards)
own_job true foul card accounts account a n m count library deck data_cards at h = cc
own_job false true card accounts account a n m count library deck data_cards at h = cc
own_job false false None accounts account a n m count library deck data_cards at h = cc
own_job false false (Some c) accounts account a n m count library deck data_cards at h =
    let ranged = is_in_range c.settings in
    let many = nat_lt 2000 count in
    let found : account_of accounts c.account ≡ Some account = paid_by ranged many account count c (account_of accounts c.account) library deck data_cards h in
    ap (λ (payer : Option ℕ). read_job ranged many n count c payer library deck data_cards) (first_of_own accounts c.account account a found at)
    ∙ as_own_read ranged many n m count c account library deck data_cards
    ∙ sym (ap (λ (payer : Option ℕ). as_own n (read_job ranged many m count c payer library deck data_cards)) found)

-- the front of one account, with the same libraries
abbrev alone : Account → Front → Front
alone a front = record { accounts = a ∷ []; shelf = front.shelf }

own_job_of : (front : Front) (account : ℕ) (a : Account) (run : Run) (n m : ℕ) → slice_get front.accounts account ≡ Some a → runs_on front account run ≡ true
    → job_of (alone a front) n run.head (body (closed run)) ≡ as_own n (job_of front m run.head (body run))
own_job_of front account a run n m at h =
    ap (job_of (alone a front) n run.head) (body_again run)
    ∙ own_job (list_any is_long (run.head ∷ body run)) (list_any is_foul (run.head ∷ body run)) (job_card run.head) front.accounts account a n m (length (body run) + 1) (library_for front.shelf (job_card run.head)) _ _ at h

own_jobs_by : (b : Bool) (front : Front) (account : ℕ) (a : Account) (run : Run) (rs : List Run) (n m : ℕ) → slice_get front.accounts account ≡ Some a → runs_on front account run ≡ b
    → ((n : ℕ) → jobs_of (alone a front) n (map closed (filter (runs_on front account) rs)) ≡ numbered n (jobs_on account (jobs_of front (m + 1) rs)))
    → jobs_of (alone a front) n (map closed (cond b (run ∷ filter (runs_on front account) rs) (filter (runs_on front account) rs)))
    ≡ numbered n (cond b (job_of front m run.head (body run) ∷ jobs_on account (jobs_of front (m + 1) rs)) (jobs_on account (jobs_of front (m + 1) rs)))
own_jobs_by true front account a run rs n m at is rest =
    ap (λ (job : JobView). job ∷ jobs_of (alone a front) (n + 1) (map closed (filter (runs_on front account) rs))) (own_job_of front account a run n m at is)
    ∙ ap (λ (jobs : List JobView). as_own n (job_of front m run.head (body run)) ∷ jobs) (rest (n + 1))
own_jobs_by false front account a run rs n m at is rest = rest n

own_jobs_of : (front : Front) (account : ℕ) (a : Account) (rs : List Run) (n m : ℕ) → slice_get front.accounts account ≡ Some a
    → jobs_of (alone a front) n (map closed (filter (runs_on front account) rs)) ≡ numbered n (jobs_on account (jobs_of front m rs))
own_jobs_of front account a [] n m at = refl
own_jobs_of front account a (run ∷ rs) n m at =
    let same : runs_on front account run ≡ is_of account (job_of front m run.head (body run)) =
    ap (is_on account) (account_by_any 0 m (length (body run) + 1) (list_any is_long (run.head ∷ body run)) (list_any is_foul (run.head ∷ body run)) (job_card run.head) (account_for front.accounts (job_card run.head)) (library_for front.shelf (job_card run.head)) _ _) in
    own_jobs_by (runs_on front account run) front account a run rs n m at refl (λ k. own_jobs_of front account a rs k (m + 1) at)
    ∙ ap (λ (b : Bool). numbered n (cond b (job_of front m run.head (body run) ∷ jobs_on account (jobs_of front (m + 1) rs)) (jobs_on account (jobs_of front (m + 1) rs)))) same

-- ---- the card of the account

both_of : (a b : Bool) → (a && b) ≡ true → (a ≡ true) × (b ≡ true)
both_of true true h = (refl, refl)
both_of true false h = cc
both_of false b h = cc

control_word : (word card : List ℕ) → is_control word card ≡ true → folded (take (length word) card) ≡ word
control_word word card h = (bytes_eq-Decides _ _).0 (both_of _ _ h).0

numbers_apart : (n m : ℕ) → n ≡ 65 → m ≡ 74 → n ≡ m → ⊥
numbers_apart n m is is' same = omega arith

words_apart : codes "%ACC" ≡ codes "%JOB" → ⊥
words_apart h = numbers_apart 65 74 refl refl (ap (λ (word : List ℕ). get_or word 1 0) h)

-- no card opens an account and begins a job
not_both : (card : List ℕ) → is_account card ≡ true → is_head card ≡ true → ⊥
not_both card opens begins =
    let front : take 4 (folded (take 8 card)) ≡ folded (take 4 card) = take-map capital 4 (take 8 card) ∙ ap folded (take-take 4 8 card (omega arith)) in
    let same : codes "%ACC" ≡ codes "%JOB" = ap (take 4) (sym (control_word (codes "%ACCOUNT") card opens)) ∙ front ∙ control_word (codes "%JOB") card begins in
    words_apart same

not_head_by : (b : Bool) (card : List ℕ) → is_head card ≡ b → is_account card ≡ true → is_head card ≡ false
not_head_by false card is opens = is
not_head_by true card is opens = absurd (not_both card opens is)

opens_by : (b : Bool) (card : List ℕ) (parts : Option AccountCard) (a : Account) → is_account card ≡ b → option_map (λ (c : AccountCard). record { name = c.name; opening = c.balance }) (cond b parts None) ≡ Some a → is_account card ≡ true
opens_by true card parts a is h = is
opens_by false card parts a is h = cc

opens_account : (card : List ℕ) (a : Account) → account_on card ≡ Some a → is_account card ≡ true
opens_account card a states = opens_by (is_account card) card _ a refl states

opened_alone : (stated : Option Account) (a : Account) → stated ≡ Some a → take 500 (first_of_each_name (cons_option stated [])) ≡ a ∷ []
opened_alone stated a h = ap (λ (o : Option Account). take 500 (first_of_each_name (cons_option o []))) h

-- ---- the batch

at_most_one : (b : Bool) → cond b 1 0 ≤ 1
at_most_one true = omega arith
at_most_one false = omega arith

pub own_batch : OwnBatch
own_batch cards card account a at states =
    let front = front_of None cards in
    let libs = kept_library_cards cards in
    let own = own_cards account cards in
    let mine = filter (runs_on front account) (runs cards) in
    let are = some_are (runs_on front account) (runs cards) (runs_are cards) in
    let opens : is_account card ≡ true = opens_account card a states in
    let other : is_head card ≡ false = not_head_by (is_head card) card refl opens in
    let none : list_any is_head (card ∷ libs) ≡ false = ap (λ (b : Bool). b || list_any is_head libs) other ∙ no_heads cards in
    let first : before_head (card ∷ own) ≡ card ∷ libs = before-past_all is_head (card ∷ libs) (flat_map job_cards mine) none ∙ ap (λ (xs : List (List ℕ)). (card ∷ libs) ++ xs) (first_is_head mine are) ∙ append-nil (card ∷ libs) in
    let all : runs (card ∷ own) ≡ map closed mine = runs_past (card ∷ libs) (flat_map job_cards mine) none ∙ runs_again mine are in
    let one : opened (card ∷ libs) ≡ a ∷ [] = ap (λ (xs : List Account). take 500 (first_of_each_name (cons_option (account_on card) xs))) (no_openings cards) ∙ opened_alone (account_on card) a states in
    let accounts : opened (before_head (card ∷ own)) ≡ a ∷ [] = ap opened first ∙ one in
    let control : is_control_card card ≡ true = ap (λ (b : Bool). b || (is_head card || (is_data card || (is_end card || is_library card)))) opens in
    let libraries : libraries_in (before_head (card ∷ own)) ≡ libraries_in (before_head cards) = ap libraries_in first ∙ libraries_behind cards card control (account_no_library card a states) in
    let alike : front_of None (card ∷ own) ≡ alone a front = λ i. record { accounts = accounts i; shelf = map shelved (libraries i) } in
    let jobs : jobs_of (front_of None (card ∷ own)) 1 (runs (card ∷ own)) ≡ own_jobs account (jobs_of front 1 (runs cards)) =
    ap (λ (f : Front). jobs_of f 1 (runs (card ∷ own))) alike ∙ ap (jobs_of (alone a front) 1) all ∙ own_jobs_of front account a (runs cards) 1 1 at in
    let few : one_if_written card ≤ 1 = at_most_one (nat_lt 0 (length card)) in
    let opening : length (opened (before_head (card ∷ own))) ≡ 1 = ap length accounts in
    let shelf : shelf_cards (libraries_in (before_head (card ∷ own))) ≡ shelf_cards (libraries_in (before_head cards)) = ap shelf_cards libraries in
    let shown : written (before_head (card ∷ own)) ≡ one_if_written card + written libs = ap written first ∙ sum_by-cons one_if_written card libs in
    let outer : sum_by (λ run. written (outside run)) (runs (card ∷ own)) ≡ 0 = ap (sum_by (λ run. written (outside run))) all ∙ none_outside mine in
    let stray : strays None (card ∷ own) ≡ 0 = omega (arith, few, opening, shelf, shown, all_counted cards, outer) in
    λ i. record { accounts = accounts i; jobs = jobs i; stray = stray i }

-- ---- the listing

pub opening_at : (accounts : List Account) (account : ℕ) (a : Account) → slice_get accounts account ≡ Some a → slice_index (openings_of accounts) account ≡ a.opening
opening_at [] account a at = cc
opening_at (x ∷ accounts) zero a at = ap (λ (y : Account). y.opening) (same_Some _ _ at)
opening_at (x ∷ accounts) (suc account) a at = opening_at accounts account a at

pub own_listing : OwnListing
own_listing cards card account a at states =
    let b = batch_of None cards in
    let openings = openings_of b.accounts in
    let mine = own_jobs account b.jobs in
    let opening : slice_index openings account ≡ a.opening = opening_at b.accounts account a at in
    let there : sections (a.opening ∷ []) mine ≡ own_sections account 1 openings [] b.jobs =
    ap (λ (n : ℕ). sections (n ∷ []) mine) (sym opening) ∙ own_sections_alike openings b.jobs account in
    let left : place_balance (a.opening ∷ []) (map charged mine) 0 ≡ place_balance openings (map charged b.jobs) account =
    ap (λ (n : ℕ). place_balance (n ∷ []) (map charged mine) 0) (sym opening) ∙ own_balances openings b.jobs account in
    ap listing_of (own_batch cards card account a at states)
    ∙ ap (λ (text : List ℕ). heading ++ text ++ closing (closing_lines (a.opening ∷ []) mine (a ∷ [])) 0) there
    ∙ ap (λ (lines : List ℕ). heading ++ own_sections account 1 openings [] b.jobs ++ closing lines 0)
    (append-nil (closing_line a (place_balance (a.opening ∷ []) (map charged mine) 0)) ∙ ap (closing_line a) left)

-- the own jobs of a batch of their own are the same ones
numbered_again : (n : ℕ) (jobs : List JobView) → numbered n (jobs_on 0 (numbered n jobs)) ≡ numbered n jobs
numbered_again n [] = refl
numbered_again n (job ∷ jobs) = ap (λ (js : List JobView). as_own n job ∷ js) (numbered_again (n + 1) jobs)

pub own_again : (account : ℕ) (jobs : List JobView) → own_jobs 0 (own_jobs account jobs) ≡ own_jobs account jobs
own_again account jobs = numbered_again 1 (jobs_on account jobs)

-- ---- flaws and accounts

abbrev flaw_or_account : JobView → Bool
flaw_or_account job = is_some job.flaw || is_some job.account

read_either : (ranged many : Bool) (number count : ℕ) (c : JobCard) (payer : Option ℕ) (library : Found) (deck data_cards : List (List ℕ)) → flaw_or_account (read_job ranged many number count c payer library deck data_cards) ≡ true
read_either false many number count c payer library deck data_cards = refl
read_either true true number count c payer library deck data_cards = refl
read_either true false number count c None library deck data_cards = refl
read_either true false number count c (Some p) (Ok library) deck data_cards = refl
read_either true false number count c (Some p) (Err flaw) deck data_cards = refl

either : (long foul : Bool) (number count : ℕ) (card : Option JobCard) (payer : Option ℕ) (library : Found) (deck data_cards : List (List ℕ)) → flaw_or_account (job_from number count long foul card payer library deck data_cards) ≡ true
either true foul number count card payer library deck data_cards = refl
either false true number count card payer library deck data_cards = refl
either false false number count None payer library deck data_cards = refl
either false false number count (Some c) payer library deck data_cards = read_either (is_in_range c.settings) (nat_lt 2000 count) number count c payer library deck data_cards

each_either : (front : Front) (number : ℕ) (rs : List Run) → list_all (λ job. is_some job.flaw || is_some job.account) (jobs_of front number rs) ≡ true
each_either front number [] = refl
each_either front number (run ∷ rs) =
    ap (λ (b : Bool). b && list_all (λ job. is_some job.flaw || is_some job.account) (jobs_of front (number + 1) rs))
    (either (list_any is_long (run.head ∷ body run)) (list_any is_foul (run.head ∷ body run)) number (length (body run) + 1) (job_card run.head) (account_for front.accounts (job_card run.head)) (library_for front.shelf (job_card run.head)) _ _)
    ∙ each_either front (number + 1) rs

pub flaws_or_accounts : FlawsOrAccounts
flaws_or_accounts given cards = each_either (front_of given cards) 1 (runs cards)

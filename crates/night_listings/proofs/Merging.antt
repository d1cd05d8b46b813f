-- A night's sections, put together from those of its parts.
use Rattle.std.proofs.Common.{◌≡◌, ℕ, ◌==◌, ◌||◌, ◌&&◌, Bool, true, false, cond, List, [], ◌∷◌, ◌++◌, Option, Some, None, is_some, map, refl, sym, ap, ◌∙◌, append_assoc, append-nil, arith}
use Rattle.std.specs.List.{list_all}
use Rattle.std.proofs.lemmas.Bool.Decides.{nat_tests}
use Rattle.deck_reader.specs.declared.batch.Flaw.{Flaw}
use Rattle.deck_reader.specs.JobView.{JobView}
use Rattle.deck_reader.specs.Cards.{cards}
use Rattle.account_book.specs.BookView.{openings_of}
use Rattle.account_book.specs.Charges.{reserve}
use Rattle.account_book.specs.Places.{place_balance}
use Rattle.algolw_meaning.specs.Charging.{charged}
use Rattle.batch_listing.specs.Listing.{body, closing_lines, section, sections, verdict_by}
use Rattle.batch_listing.specs.Texts.{heading, closing}
use Rattle.account_shares.specs.Shares.{sections_after}
use Rattle.account_shares.proofs.Cut.{flaws_or_accounts}
use Rattle.account_shares.proofs.Nights.{sections_part}
use Rattle.night_listings.specs.Laws.{NightMerged, WindowMerged}
use Rattle.night_listings.specs.Nights.{behind_number, first_of, flaw_body, in_chain, jobs_of_windows, left_behind, merged, merged_windows, names, night, numbered, others_of, rests_in, taken}
use Rattle.night_listings.proofs.Parts.{own_number}

-- ---- one job

refused_by : (flaw : Option Flaw) (account : Option ℕ) (balance : ℕ → ℕ) (job : JobView) → (is_some flaw || is_some account) ≡ true → account ≡ None
    → flaw_body flaw ≡ body (verdict_by flaw account (reserve job) balance) job
refused_by None None balance job one none = absurd (cc one)
refused_by None (Some payer) balance job one none = absurd (cc none)
refused_by (Some flaw) account balance job one none = refl

own_chain : (chain : ℕ → ℕ) (account : ℕ) → in_chain chain (chain account) (Some account) ≡ true
own_chain chain account = grind (arith, nat_tests)

first_by : (b : Bool) (one : List ℕ) (rests others : List (List ℕ)) → b ≡ true → first_of (cond b (one ∷ rests) others) ≡ one
first_by true one rests others is = refl
first_by false one rests others is = absurd (cc is)

-- the next of its chain's is the job's own
taken_own : (chain : ℕ → ℕ) (openings : List ℕ) (earlier : List JobView) (job : JobView) (jobs : List JobView) (account : Option ℕ) → job.account ≡ account
    → (is_some job.flaw || is_some job.account) ≡ true
    → taken chain (λ c. rests_in (in_chain chain c) openings earlier (job ∷ jobs)) job account ≡ behind_number openings earlier job
taken_own chain openings earlier job jobs None is one =
    ap (λ (xs : List ℕ). names job ++ xs) (refused_by job.flaw job.account (place_balance openings (map charged earlier)) job one is)
taken_own chain openings earlier job jobs (Some account) is one =
    first_by (in_chain chain (chain account) job.account) (behind_number openings earlier job) (rests_in (in_chain chain (chain account)) openings (earlier ++ job ∷ []) jobs)
    (rests_in (in_chain chain (chain account)) openings (earlier ++ job ∷ []) jobs) (ap (in_chain chain (chain account)) is ∙ own_chain chain account)

others_by : (own b : Bool) (one : List ℕ) (rests : List (List ℕ)) → b ≡ own → cond own (others_of (cond b (one ∷ rests) rests)) (cond b (one ∷ rests) rests) ≡ rests
others_by true true one rests e = refl
others_by true false one rests e = absurd (cc e)
others_by false true one rests e = absurd (cc e)
others_by false false one rests e = refl

none_by : (b : Bool) (one : List ℕ) (rests : List (List ℕ)) → b ≡ false → cond b (one ∷ rests) rests ≡ rests
none_by true one rests e = absurd (cc e)
none_by false one rests e = refl

-- and then each chain has those of the jobs behind
left_own : (chain : ℕ → ℕ) (openings : List ℕ) (earlier : List JobView) (job : JobView) (jobs : List JobView) (account : Option ℕ) (c : ℕ) → job.account ≡ account
    → left_behind chain (λ c. rests_in (in_chain chain c) openings earlier (job ∷ jobs)) account c ≡ rests_in (in_chain chain c) openings (earlier ++ job ∷ []) jobs
left_own chain openings earlier job jobs None c is =
    none_by (in_chain chain c job.account) (behind_number openings earlier job) (rests_in (in_chain chain c) openings (earlier ++ job ∷ []) jobs) (ap (in_chain chain c) is)
left_own chain openings earlier job jobs (Some account) c is =
    others_by (chain account == c) (in_chain chain c job.account) (behind_number openings earlier job) (rests_in (in_chain chain c) openings (earlier ++ job ∷ []) jobs) (ap (in_chain chain c) is)

-- ---- a window

same_taken : (chain : ℕ → ℕ) (one other : ℕ → List (List ℕ)) (job : JobView) (account : Option ℕ) → ((c : ℕ) → one c ≡ other c) → taken chain one job account ≡ taken chain other job account
same_taken chain one other job None same = refl
same_taken chain one other job (Some account) same = ap first_of (same (chain account))

same_left : (chain : ℕ → ℕ) (one other : ℕ → List (List ℕ)) (account : Option ℕ) (c : ℕ) → ((c : ℕ) → one c ≡ other c) → left_behind chain one account c ≡ left_behind chain other account c
same_left chain one other None c same = same c
same_left chain one other (Some account) c same = ap (λ (xs : List (List ℕ)). cond (chain account == c) (others_of xs) xs) (same c)

same_supply : (chain : ℕ → ℕ) (one other : ℕ → List (List ℕ)) (jobs : List JobView) → ((c : ℕ) → one c ≡ other c) → merged chain one jobs ≡ merged chain other jobs
same_supply chain one other [] same = refl
same_supply chain one other (job ∷ jobs) same =
    ap (λ (xs : List ℕ). numbered job.number xs ++ merged chain (left_behind chain one job.account) jobs) (same_taken chain one other job job.account same)
    ∙ ap (λ (xs : List ℕ). numbered job.number (taken chain other job job.account) ++ xs)
    (same_supply chain (left_behind chain one job.account) (left_behind chain other job.account) jobs (λ c. same_left chain one other job.account c same))

and_left : (a b : Bool) → a && b ≡ true → a ≡ true
and_left true b e = refl
and_left false b e = e

and_right : (a b : Bool) → a && b ≡ true → b ≡ true
and_right true b e = e
and_right false b e = absurd (cc e)

abbrev can_stand : JobView → Bool
can_stand job = is_some job.flaw || is_some job.account

pub window_merged : WindowMerged
window_merged chain openings earlier [] all = refl
window_merged chain openings earlier (job ∷ jobs) all =
    let supply : ℕ → List (List ℕ) = λ c. rests_in (in_chain chain c) openings earlier (job ∷ jobs) in
    ap (λ (xs : List ℕ). numbered job.number xs ++ merged chain (left_behind chain (λ c. rests_in (in_chain chain c) openings earlier (job ∷ jobs)) job.account) jobs)
    (taken_own chain openings earlier job jobs job.account refl (and_left (can_stand job) (list_all can_stand jobs) all))
    ∙ ap (λ (xs : List ℕ). numbered job.number (behind_number openings earlier job) ++ xs)
    (same_supply chain (left_behind chain (λ c. rests_in (in_chain chain c) openings earlier (job ∷ jobs)) job.account)
    (λ c. rests_in (in_chain chain c) openings (earlier ++ job ∷ []) jobs) jobs (λ c. left_own chain openings earlier job jobs job.account c refl)
    ∙ window_merged chain openings (earlier ++ job ∷ []) jobs (and_right (can_stand job) (list_all can_stand jobs) all))
    ∙ ap (λ (xs : List ℕ). xs ++ sections_after openings (earlier ++ job ∷ []) jobs) (sym (own_number openings earlier job))

-- ---- windows

sections_after-append : (openings : List ℕ) (earlier jobs more : List JobView) → sections_after openings earlier (jobs ++ more) ≡ sections_after openings earlier jobs ++ sections_after openings (earlier ++ jobs) more
sections_after-append openings earlier [] more = ap (λ (js : List JobView). sections_after openings js more) (sym (append-nil earlier))
sections_after-append openings earlier (job ∷ jobs) more =
    ap (λ (xs : List ℕ). section openings earlier job ++ xs) (sections_after-append openings (earlier ++ job ∷ []) jobs more)
    ∙ sym (append_assoc (section openings earlier job) (sections_after openings (earlier ++ job ∷ []) jobs) (sections_after openings ((earlier ++ job ∷ []) ++ jobs) more))
    ∙ ap (λ (js : List JobView). (section openings earlier job ++ sections_after openings (earlier ++ job ∷ []) jobs) ++ sections_after openings js more) (append_assoc earlier (job ∷ []) jobs)

all_front : (p : JobView → Bool) (xs ys : List JobView) → list_all p (xs ++ ys) ≡ true → list_all p xs ≡ true
all_front p [] ys h = refl
all_front p (x ∷ xs) ys h = rw (and_left (p x) (list_all p (xs ++ ys)) h) (all_front p xs ys (and_right (p x) (list_all p (xs ++ ys)) h))

all_behind : (p : JobView → Bool) (xs ys : List JobView) → list_all p (xs ++ ys) ≡ true → list_all p ys ≡ true
all_behind p [] ys h = h
all_behind p (x ∷ xs) ys h = all_behind p xs ys (and_right (p x) (list_all p (xs ++ ys)) h)

windows_merged : (chain : ℕ → ℕ) (openings : List ℕ) (earlier : List JobView) (windows : List (List JobView)) → list_all can_stand (jobs_of_windows windows) ≡ true
    → merged_windows chain openings earlier windows ≡ sections_after openings earlier (jobs_of_windows windows)
windows_merged chain openings earlier [] all = refl
windows_merged chain openings earlier (window ∷ windows) all =
    ap (λ (xs : List ℕ). xs ++ merged_windows chain openings (earlier ++ window) windows) (window_merged chain openings earlier window (all_front can_stand window (jobs_of_windows windows) all))
    ∙ ap (λ (xs : List ℕ). sections_after openings earlier window ++ xs) (windows_merged chain openings (earlier ++ window) windows (all_behind can_stand window (jobs_of_windows windows) all))
    ∙ sym (sections_after-append openings earlier window (jobs_of_windows windows))

-- ---- the night

pub night_merged : NightMerged
night_merged chain accounts bytes windows are =
    let openings = openings_of accounts in
    let jobs = jobs_of_windows windows in
    let all : list_all can_stand (jobs_of_windows windows) ≡ true = ap (list_all can_stand) (sym are) ∙ flaws_or_accounts (Some accounts) (cards bytes) in
    let shown : sections (openings_of accounts) (jobs_of_windows windows) ≡ merged_windows chain (openings_of accounts) [] windows =
    sections_part (openings_of accounts) [] (jobs_of_windows windows) ∙ sym (windows_merged chain (openings_of accounts) [] windows all) in
    ap (λ (js : List JobView). heading ++ sections (openings_of accounts) js ++ closing (closing_lines (openings_of accounts) js accounts) (night accounts bytes).stray) are
    ∙ ap (λ (xs : List ℕ). heading ++ xs ++ closing (closing_lines (openings_of accounts) (jobs_of_windows windows) accounts) (night accounts bytes).stray) shown

-- A window joined by its plan.
use Rattle.std.proofs.Common.{◌≡◌, ℕ, ◌+◌, ◌||◌, ◌&&◌, Bool, true, false, cond, List, [], ◌∷◌, ◌++◌, length, map, filter, Option, Some, None, is_some, refl, sym, ap, subst, ◌∙◌, arith}
use Rattle.std.specs.List.{list_all}
use Rattle.std.proofs.lemmas.List.{length-map}
use Rattle.std.proofs.lemmas.List.Folds.{list_all-append}
use Rattle.deck_reader.specs.JobView.{JobView}
use Rattle.deck_reader.specs.Batch.{front_of, runs}
use Rattle.deck_reader.specs.Cards.{cards}
use Rattle.account_book.specs.BookView.{openings_of}
use Rattle.account_shares.specs.Shares.{is_in}
use Rattle.account_shares.proofs.Cut.{flaws_or_accounts}
use Rattle.account_shares.proofs.Nights.{sections_part}
use Rattle.batch_listing.specs.Listing.{closing_lines, sections}
use Rattle.batch_listing.specs.Texts.{closing, heading}
use Rattle.listing_parts.specs.Sections.{begins}
use Rattle.listing_parts.proofs.Tests.{and_left, and_right}
use Rattle.night_listings.specs.Nights.{behind_number, in_chain, jobs_of_windows, left_behind, merged, merged_windows, night, numbered, rests_in, taken}
use Rattle.night_listings.proofs.Merging.{night_merged, window_merged}
use Rattle.night_forms.specs.Joining.{is_next, joined, joined_windows, left_by, planned, planned_by, rest_by, windows_behind}
use Rattle.night_forms.specs.Laws.{NightJoined, PartsAreCounted, RestsBegin, WindowJoined}
use Rattle.night_forms.proofs.Numbers.{AreFrom, from_behind, from_front, jobs_are_from}

-- ---- how many jobs a plan gives a chain

next_is : (chain : ℕ → ℕ) (c : ℕ) (job : JobView) (account : Option ℕ) → in_chain chain c account ≡ is_next c (planned_by chain job account)
next_is chain c job None = refl
next_is chain c job (Some account) = refl

as_many_by : {X Y : Type 0} (a b : Bool) (x : X) (xs : List X) (y : Y) (ys : List Y) → a ≡ b → length xs ≡ length ys → length (cond a (x ∷ xs) xs) ≡ length (cond b (y ∷ ys) ys)
as_many_by true true x xs y ys same long = omega (arith, long)
as_many_by true false x xs y ys same long = absurd (cc same)
as_many_by false true x xs y ys same long = absurd (cc same)
as_many_by false false x xs y ys same long = long

pub parts_are_counted : PartsAreCounted
parts_are_counted chain c openings earlier [] = refl
parts_are_counted chain c openings earlier (job ∷ jobs) =
    as_many_by (in_chain chain c job.account) (is_next c (planned chain job)) (behind_number openings earlier job) (rests_in (in_chain chain c) openings (earlier ++ job ∷ []) jobs)
    (planned chain job) (filter (is_next c) (map (planned chain) jobs)) (next_is chain c job job.account) (parts_are_counted chain c openings (earlier ++ job ∷ []) jobs)

more_begin : (own : Bool) (rest : List ℕ) (rests : List (List ℕ)) → begins 32 rest ≡ true → list_all (begins 32) rests ≡ true → list_all (begins 32) (cond own (rest ∷ rests) rests) ≡ true
more_begin true rest rests h k = ap (λ (b : Bool). b && list_all (begins 32) rests) h ∙ k
more_begin false rest rests h k = k

pub rests_begin : RestsBegin
rests_begin own openings earlier [] = refl
rests_begin own openings earlier (job ∷ jobs) =
    more_begin (own job.account) (behind_number openings earlier job) (rests_in own openings (earlier ++ job ∷ []) jobs) refl (rests_begin own openings (earlier ++ job ∷ []) jobs)

-- so many are the chain's jobs
pub jobs_are_counted : (chain : ℕ → ℕ) (c : ℕ) (jobs : List JobView) → length (filter (is_in (in_chain chain c)) jobs) ≡ length (filter (is_next c) (map (planned chain) jobs))
jobs_are_counted chain c [] = refl
jobs_are_counted chain c (job ∷ jobs) =
    as_many_by (in_chain chain c job.account) (is_next c (planned chain job)) job (filter (is_in (in_chain chain c)) jobs)
    (planned chain job) (filter (is_next c) (map (planned chain) jobs)) (next_is chain c job job.account) (jobs_are_counted chain c jobs)

-- ---- joined

rest_is : (chain : ℕ → ℕ) (supply : ℕ → List (List ℕ)) (job : JobView) (account : Option ℕ) → rest_by supply (planned_by chain job account) ≡ taken chain supply job account
rest_is chain supply job None = refl
rest_is chain supply job (Some account) = refl

left_is : (chain : ℕ → ℕ) (supply : ℕ → List (List ℕ)) (job : JobView) (account : Option ℕ) (c : ℕ) → left_by supply (planned_by chain job account) c ≡ left_behind chain supply account c
left_is chain supply job None c = refl
left_is chain supply job (Some account) c = refl

joined_is : (chain : ℕ → ℕ) (supply : ℕ → List (List ℕ)) (jobs : List JobView) (number : ℕ) → AreFrom number jobs → joined number supply (map (planned chain) jobs) ≡ merged chain supply jobs
joined_is chain supply [] number are = refl
joined_is chain supply (job ∷ jobs) number are =
    let left : left_by supply (planned chain job) ≡ left_behind chain supply job.account = λ i. λ c. left_is chain supply job job.account c i in
    ap (λ (n : ℕ). numbered n (rest_by supply (planned chain job)) ++ joined (number + 1) (left_by supply (planned chain job)) (map (planned chain) jobs)) (sym are.0)
    ∙ ap (λ (rest : List ℕ). numbered job.number rest ++ joined (number + 1) (left_by supply (planned chain job)) (map (planned chain) jobs)) (rest_is chain supply job job.account)
    ∙ ap (λ (s : ℕ → List (List ℕ)). numbered job.number (taken chain supply job job.account) ++ joined (number + 1) s (map (planned chain) jobs)) left
    ∙ ap (λ (text : List ℕ). numbered job.number (taken chain supply job job.account) ++ text) (joined_is chain (left_behind chain supply job.account) jobs (number + 1) are.1)

abbrev can_stand : JobView → Bool
can_stand job = is_some job.flaw || is_some job.account

-- what holds of a night's jobs holds of a window's
of_window : (p : JobView → Bool) (earlier jobs more : List JobView) → list_all p (earlier ++ (jobs ++ more)) ≡ true → list_all p jobs ≡ true
of_window p earlier jobs more all =
    let later = and_right (list_all p earlier) (list_all p (jobs ++ more)) (sym (list_all-append p earlier (jobs ++ more)) ∙ all) in
    and_left (list_all p jobs) (list_all p more) (sym (list_all-append p jobs more) ∙ later)

pub window_joined : WindowJoined
window_joined chain accounts bytes earlier jobs more supply e same =
    let openings = openings_of accounts in
    let own : ℕ → List (List ℕ) = λ c. rests_in (in_chain chain c) (openings_of accounts) earlier jobs in
    let supplied : supply ≡ own = λ i. λ c. same c i in
    let stand : list_all can_stand jobs ≡ true = of_window can_stand earlier jobs more (ap (list_all can_stand) (sym e) ∙ flaws_or_accounts (Some accounts) (cards bytes)) in
    let all : AreFrom 1 (earlier ++ (jobs ++ more)) = subst (AreFrom 1) e (jobs_are_from (front_of (Some accounts) (cards bytes)) 1 (runs (cards bytes))) in
    let are : AreFrom (1 + length earlier) jobs = from_front (1 + length earlier) jobs more (from_behind 1 earlier (jobs ++ more) all) in
    ap (λ (s : ℕ → List (List ℕ)). sections openings earlier ++ joined (1 + length earlier) s (map (planned chain) jobs)) supplied
    ∙ ap (λ (text : List ℕ). sections openings earlier ++ text) (joined_is chain own jobs (1 + length earlier) are ∙ window_merged chain openings earlier jobs stand)
    ∙ sym (sections_part openings earlier jobs)

-- ---- all windows

windows_joined : (chain : ℕ → ℕ) (openings : List ℕ) (earlier : List JobView) (windows : List (List JobView)) (number : ℕ) → AreFrom number (jobs_of_windows windows)
    → joined_windows number (windows_behind chain openings earlier windows) ≡ merged_windows chain openings earlier windows
windows_joined chain openings earlier [] number are = refl
windows_joined chain openings earlier (jobs ∷ windows) number are =
    let own : ℕ → List (List ℕ) = λ c. rests_in (in_chain chain c) openings earlier jobs in
    let many : length (map (planned chain) jobs) ≡ length jobs = length-map jobs (planned chain) in
    let here : joined number own (map (planned chain) jobs) ≡ merged chain own jobs = joined_is chain own jobs number (from_front number jobs (jobs_of_windows windows) are) in
    let rest : joined_windows (number + length jobs) (windows_behind chain openings (earlier ++ jobs) windows) ≡ merged_windows chain openings (earlier ++ jobs) windows =
    windows_joined chain openings (earlier ++ jobs) windows (number + length jobs) (from_behind number jobs (jobs_of_windows windows) are) in
    ap (λ (n : ℕ). joined number own (map (planned chain) jobs) ++ joined_windows (number + n) (windows_behind chain openings (earlier ++ jobs) windows)) many
    ∙ ap (λ (text : List ℕ). text ++ joined_windows (number + length jobs) (windows_behind chain openings (earlier ++ jobs) windows)) here
    ∙ ap (λ (text : List ℕ). merged chain own jobs ++ text) rest

pub night_joined : NightJoined
night_joined chain accounts bytes windows e =
    let openings = openings_of accounts in
    let are : AreFrom 1 (jobs_of_windows windows) = subst (AreFrom 1) e (jobs_are_from (front_of (Some accounts) (cards bytes)) 1 (runs (cards bytes))) in
    night_merged chain accounts bytes windows e
    ∙ ap (λ (text : List ℕ). heading ++ text ++ closing (closing_lines openings (jobs_of_windows windows) accounts) (night accounts bytes).stray) (sym (windows_joined chain openings [] windows 1 are))

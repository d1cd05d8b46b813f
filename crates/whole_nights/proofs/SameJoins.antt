-- Sections joined by the plan that is filed, and by the plan of which the laws of nights speak.
use Rattle.std.proofs.Common.{◌≡◌, ℕ, ◌+◌, ◌-◌, ◌<◌, ◌==◌, ◌&&◌, ◌||◌, Bool, true, false, cond, List, [], ◌∷◌, ◌++◌, length, take, get_or, filter, map, Option, Some, None, is_some, refl, sym, ap, ◌∙◌, append_assoc, append-nil, arith, length-append}
use Rattle.std.specs.List.{list_all}
use Rattle.std.proofs.lemmas.List.{length-map}
use Rattle.std.proofs.lemmas.List.Folds.{list_all-append}
use Rattle.deck_reader.specs.declared.batch.Account.{Account}
use Rattle.deck_reader.specs.declared.batch.Flaw.{Flaw}
use Rattle.deck_reader.specs.JobView.{JobView}
use Rattle.account_book.specs.BookView.{openings_of}
use Rattle.night_forms.specs.Joining.{Planned, is_next, joined, joined_windows, left_by, next, planned, planned_by, windows_behind}
use Rattle.night_listings.specs.Nights.{first_of, flaw_body, in_chain, jobs_of_windows, names, numbered, others_of, rests_in}
use Rattle.night_merge.specs.declared.plan.Entry.{Entry}
use Rattle.night_merge.specs.declared.plan.Entry.TheVariants.{Job}
use Rattle.night_merge.specs.Entries.{AreBelow, count_of}
use Rattle.night_merge.specs.Joining as merge
use Rattle.night_merge.specs.Nights.{windows_joined}
use Rattle.night_merge.specs.Texts as texts
use Rattle.night_shares.specs.Plan.{chain_of}
use Rattle.whole_nights.specs.Plans.{entries_by, entries_of}
use Rattle.whole_nights.specs.Joining.{jobs_before, jobs_in_window, night_rests}
use Rattle.whole_nights.proofs.SameTexts.{numbered_same, refused_same}

-- ---- a job has a flaw or an account

abbrev pub can_stand : JobView → Bool
can_stand job = is_some job.flaw || is_some job.account

pub and_left : (a b : Bool) → (a && b) ≡ true → a ≡ true
and_left true b h = refl
and_left false b h = cc

pub and_right : (a b : Bool) → (a && b) ≡ true → b ≡ true
and_right true b h = h
and_right false b h = cc

-- so the plan has one entry for it
one_entry : (chains : ℕ) (job : JobView) (flaw : Option Flaw) (account : Option ℕ) (rest : List Entry) → (is_some flaw || is_some account) ≡ true → length (entries_by chains job flaw account ++ rest) ≡ length rest + 1
one_entry chains job flaw (Some account) rest h = omega arith
one_entry chains job (Some flaw) None rest h = omega arith
one_entry chains job None None rest h = cc

pub entries_many : (chains : ℕ) (jobs : List JobView) → list_all can_stand jobs ≡ true → length (entries_of chains jobs) ≡ length jobs
entries_many chains [] h = refl
entries_many chains (job ∷ jobs) h =
    let one = one_entry chains job job.flaw job.account (entries_of chains jobs) (and_left (can_stand job) (list_all can_stand jobs) h) in
    let rest = entries_many chains jobs (and_right (can_stand job) (list_all can_stand jobs) h) in
    omega (arith, one, rest)

-- ---- one window

first_same : (rests : List (List ℕ)) → merge.first_of rests ≡ first_of rests
first_same [] = refl
first_same (rest ∷ rests) = refl

others_same : (rests : List (List ℕ)) → merge.others_of rests ≡ others_of rests
others_same [] = refl
others_same (rest ∷ rests) = refl

left_same : (supply : ℕ → List (List ℕ)) (chain c : ℕ) → merge.left_by supply (Job chain) c ≡ left_by supply (next chain) c
left_same supply chain c = ap (λ (rests : List (List ℕ)). cond (chain == c) rests (supply c)) (others_same (supply c))

job_joined : (chains : ℕ) (job : JobView) (flaw : Option Flaw) (account : Option ℕ) (jobs : List JobView) (number : ℕ) (supply : ℕ → List (List ℕ)) → job.flaw ≡ flaw → job.account ≡ account
    → (is_some flaw || is_some account) ≡ true
    → ((supply' : ℕ → List (List ℕ)) → merge.joined (number + 1) supply' (entries_of chains jobs) ≡ joined (number + 1) supply' (map (planned (chain_of chains)) jobs))
    → merge.joined number supply (entries_by chains job flaw account ++ entries_of chains jobs) ≡ joined number supply (planned_by (chain_of chains) job account ∷ map (planned (chain_of chains)) jobs)
job_joined chains job flaw (Some account) jobs number supply flaw_is account_is h rest =
    let chain = chain_of chains account in
    let plan = map (planned (chain_of chains)) jobs in
    let here : texts.numbered number (merge.first_of (supply chain)) ≡ numbered number (first_of (supply chain)) =
    numbered_same number (merge.first_of (supply chain)) ∙ ap (numbered number) (first_same (supply chain)) in
    let left : merge.left_by supply (Job chain) ≡ left_by supply (next chain) = λ i. λ c. left_same supply chain c i in
    let behind = rest (merge.left_by supply (Job chain)) ∙ ap (λ (s : ℕ → List (List ℕ)). joined (number + 1) s plan) left in
    λ i. here i ++ behind i
job_joined chains job (Some flaw) None jobs number supply flaw_is account_is h rest =
    let same : merge.refused_rest flaw job.name job.account_name ≡ names job ++ flaw_body job.flaw = refused_same flaw job ∙ ap (λ (f : Option Flaw). names job ++ flaw_body f) (sym flaw_is) in
    let here : texts.numbered number (merge.refused_rest flaw job.name job.account_name) ≡ numbered number (names job ++ flaw_body job.flaw) =
    numbered_same number (merge.refused_rest flaw job.name job.account_name) ∙ ap (numbered number) same in
    let behind = rest supply in
    λ i. here i ++ behind i
job_joined chains job None None jobs number supply flaw_is account_is h rest = cc

pub window_joined : (chains : ℕ) (jobs : List JobView) (number : ℕ) (supply : ℕ → List (List ℕ)) → list_all can_stand jobs ≡ true
    → merge.joined number supply (entries_of chains jobs) ≡ joined number supply (map (planned (chain_of chains)) jobs)
window_joined chains [] number supply h = refl
window_joined chains (job ∷ jobs) number supply h =
    job_joined chains job job.flaw job.account jobs number supply refl refl (and_left (can_stand job) (list_all can_stand jobs) h)
    (λ supply'. window_joined chains jobs (number + 1) supply' (and_right (can_stand job) (list_all can_stand jobs) h))

-- ---- how many jobs of a chain it has

job_counted : (chains : ℕ) (job : JobView) (flaw : Option Flaw) (account : Option ℕ) (c : ℕ) (entries : List Entry) (plan : List Planned) → count_of c entries ≡ length (filter (is_next c) plan)
    → count_of c (entries_by chains job flaw account ++ entries) ≡ length (filter (is_next c) (planned_by (chain_of chains) job account ∷ plan))
job_counted chains job flaw (Some account) c entries plan same = by (chain_of chains account == c)
  where
    by : (b : Bool) → cond b (count_of c entries + 1) (count_of c entries) ≡ length (cond b (next (chain_of chains account) ∷ filter (is_next c) plan) (filter (is_next c) plan))
    by true = omega (arith, same)
    by false = same
job_counted chains job (Some flaw) None c entries plan same = same
job_counted chains job None None c entries plan same = same

pub jobs_counted : (chains c : ℕ) (jobs : List JobView) → count_of c (entries_of chains jobs) ≡ length (filter (is_next c) (map (planned (chain_of chains)) jobs))
jobs_counted chains c [] = refl
jobs_counted chains c (job ∷ jobs) =
    job_counted chains job job.flaw job.account c (entries_of chains jobs) (map (planned (chain_of chains)) jobs) (jobs_counted chains c jobs)

-- each is of a chain that there is
job_below : (chains : ℕ) (job : JobView) (flaw : Option Flaw) (account : Option ℕ) (rest : List Entry) → 0 < chains → AreBelow chains rest → AreBelow chains (entries_by chains job flaw account ++ rest)
job_below chains job flaw (Some account) rest some below = (omega (arith, some), below)
job_below chains job (Some flaw) None rest some below = (tt, below)
job_below chains job None None rest some below = below

pub jobs_below : (chains : ℕ) (jobs : List JobView) → 0 < chains → AreBelow chains (entries_of chains jobs)
jobs_below chains [] some = tt
jobs_below chains (job ∷ jobs) some = job_below chains job job.flaw job.account (entries_of chains jobs) some (jobs_below chains jobs some)

-- ---- a window's place among all

take_all_of : {X : Type 0} (front rest : List X) → take (length front) (front ++ rest) ≡ front
take_all_of [] rest = refl
take_all_of (x ∷ front) rest = ap (λ (xs : List _). x ∷ xs) (take_all_of front rest)

get_behind : {X : Type 0} (front : List X) (x : X) (rest : List X) (d : X) → get_or (front ++ x ∷ rest) (length front) d ≡ x
get_behind [] x rest d = refl
get_behind (y ∷ front) x rest d = get_behind front x rest d

pub before_is : (all front rest : List (List JobView)) (number : ℕ) → all ≡ front ++ rest → number ≡ length front + 1 → jobs_before all number ≡ jobs_of_windows front
before_is all front rest number whole at =
    let place : number - 1 ≡ length front = omega (arith, at) in
    ap (λ (n : ℕ). jobs_of_windows (take n all)) place ∙ ap (λ (ws : List (List JobView)). jobs_of_windows (take (length front) ws)) whole ∙ ap jobs_of_windows (take_all_of front rest)

pub window_is : (all front : List (List JobView)) (window : List JobView) (rest : List (List JobView)) (number : ℕ) → all ≡ front ++ window ∷ rest → number ≡ length front + 1 → jobs_in_window all number ≡ window
window_is all front window rest number whole at =
    let place : number - 1 ≡ length front = omega (arith, at) in
    ap (λ (n : ℕ). get_or all n []) place ∙ ap (λ (ws : List (List JobView)). get_or ws (length front) []) whole ∙ get_behind front window rest []

pub jobs_push : (front : List (List JobView)) (window : List JobView) → jobs_of_windows (front ++ window ∷ []) ≡ jobs_of_windows front ++ window
jobs_push [] window = append-nil window
jobs_push (first ∷ front) window = ap (λ (js : List JobView). first ++ js) (jobs_push front window) ∙ sym (append_assoc first (jobs_of_windows front) window)

pub push_long : {X : Type 0} (front : List X) (x : X) → length (front ++ x ∷ []) ≡ length front + 1
push_long front x = omega (arith, length-append front (x ∷ []))

-- ---- all windows

-- what a window's sections have behind their numbers, by their chain
abbrev rests_at : ℕ → List Account → List JobView → List JobView → ℕ → List (List ℕ)
rests_at chains accounts earlier jobs c = rests_in (in_chain (chain_of chains) c) (openings_of accounts) earlier jobs

pub all_joined : (chains : ℕ) (accounts : List Account) (all front rest : List (List JobView)) (number first : ℕ) → all ≡ front ++ rest → number ≡ length front + 1 → list_all can_stand (jobs_of_windows rest) ≡ true
    → windows_joined number first (night_rests chains accounts all) (map (entries_of chains) rest) ≡ joined_windows first (windows_behind (chain_of chains) (openings_of accounts) (jobs_of_windows front) rest)
all_joined chains accounts all front [] number first whole at stand = refl
all_joined chains accounts all front (window ∷ rest) number first whole at stand =
    let both = sym (list_all-append can_stand window (jobs_of_windows rest)) ∙ stand in
    let here_stands : list_all can_stand window ≡ true = and_left (list_all can_stand window) (list_all can_stand (jobs_of_windows rest)) both in
    let rest_stands : list_all can_stand (jobs_of_windows rest) ≡ true = and_right (list_all can_stand window) (list_all can_stand (jobs_of_windows rest)) both in
    let plan = map (planned (chain_of chains)) window in
    let windows = windows_behind (chain_of chains) (openings_of accounts) in
    let earlier : jobs_before all number ≡ jobs_of_windows front = before_is all front (window ∷ rest) number whole at in
    let jobs : jobs_in_window all number ≡ window = window_is all front window rest number whole at in
    let supply : night_rests chains accounts all number ≡ rests_at chains accounts (jobs_of_windows front) window =
    λ i. rests_at chains accounts (earlier i) (jobs i) in
    let here : merge.joined first (night_rests chains accounts all number) (entries_of chains window) ≡ joined first (rests_at chains accounts (jobs_of_windows front) window) plan =
    window_joined chains window first (night_rests chains accounts all number) here_stands ∙ ap (λ (s : ℕ → List (List ℕ)). joined first s plan) supply in
    let long : first + length (entries_of chains window) ≡ first + length plan = omega (arith, entries_many chains window here_stands, length-map window (planned (chain_of chains))) in
    let next_whole : all ≡ (front ++ window ∷ []) ++ rest = whole ∙ sym (append_assoc front (window ∷ []) rest) in
    let next_at : number + 1 ≡ length (front ++ window ∷ []) + 1 = omega (arith, at, push_long front window) in
    let behind : windows_joined (number + 1) (first + length (entries_of chains window)) (night_rests chains accounts all) (map (entries_of chains) rest)
    ≡ joined_windows (first + length plan) (windows (jobs_of_windows front ++ window) rest) =
    all_joined chains accounts all (front ++ window ∷ []) rest (number + 1) (first + length (entries_of chains window)) next_whole next_at rest_stands
    ∙ ap (λ (n : ℕ). joined_windows n (windows (jobs_of_windows (front ++ window ∷ [])) rest)) long
    ∙ ap (λ (js : List JobView). joined_windows (first + length plan) (windows js rest)) (jobs_push front window) in
    λ i. here i ++ behind i

-- The cards of a part are the batch of the part.
use Rattle.std.proofs.Common.{◌≡◌, ℕ, zero, suc, ◌+◌, ◌<◌, ◌&&◌, ◌||◌, not, nat_lt, Bool, true, false, cond, List, [], ◌∷◌, ◌++◌, Option, Some, None, length, map, filter, flat_map, take, drop, codes, bytes_eq, sum_by, refl, sym, ap, subst, ◌∙◌, arith, append-nil}
use Rattle.std.specs.List.{AllByRecursion, after_first, before_first, enumerate_from, list_any, position_or_len}
use Rattle.std.proofs.lemmas.Grind.{flat_map-append}
use Rattle.std.proofs.lemmas.List.{length-append, map-append, take-map}
use Rattle.deck_reader.specs.declared.batch.Account.{Account}
use Rattle.deck_reader.specs.declared.forms.JobCard.{JobCard}
use Rattle.deck_reader.specs.JobView.{JobView}
use Rattle.deck_reader.specs.LibraryView.{Shelved}
use Rattle.deck_reader.specs.Batch.{Front, Run, account_for, account_of, batch_of, batch_with, before_head, body, front_of, job_from, job_of, jobs_of, libraries_in, library_for, outside, runs, shelf_cards, shelved, strays, written}
use Rattle.deck_reader.specs.CardFlaws.{is_foul, is_long}
use Rattle.deck_reader.specs.Cards.{cards, cleaned, pieces}
use Rattle.deck_reader.specs.Forms.{ends_a_word, is_data, is_end, is_head}
use Rattle.deck_reader.specs.JobCards.{job_card}
use Rattle.deck_reader.proofs.JobCards.{from_is_control}
use Rattle.account_book.specs.BookView.{openings_of}
use Rattle.batch_listing.specs.Listing.{closed_account, closed_accounts}
use Rattle.account_shares.specs.Own.{job_cards}
use Rattle.account_shares.specs.Shares.{is_in, numbered_in, part_from, run_is_in}
use Rattle.account_shares.proofs.Cut.{AreRuns, account_by_any, closed, first_is_head, none_outside, runs_again, runs_past}
use Rattle.account_shares.proofs.Firsts.{all_append, before-past_all}
use Rattle.account_shares.proofs.Kept.{AreRunsOf, IsRunOf, runs_of}
use Rattle.night_listings.specs.Nights.{in_chain}
use Rattle.night_shares.specs.Filing.{night_libraries}
use Rattle.night_shares.specs.Jobs.{NightJob, job_in, jobs_of_lines, libraries_text, night_front, night_jobs}
use Rattle.night_shares.specs.Lines.{begins_job, cleaned_run, ends_job, job_lines, line_runs, text_of_lines}
use Rattle.night_shares.specs.Plan.{chain_of, row}
use Rattle.night_shares.specs.Reading.{IsInLine}
use Rattle.night_shares.specs.Windows.{is_of_chain, jobs_of_chain, part_text}
use Rattle.night_shares.proofs.Pieces.{pieces_in_line}
use Rattle.night_shares.proofs.Texts.{cards_of_lines}
use Rattle.whole_nights.specs.Parts.{PartsAreBatches, accounts_then, views_of}
use Rattle.whole_nights.proofs.Libraries.{all_claimed, in_lines, no_jobs, shelf, shelf_lines, shelf_stays, stays, text_is}
use Rattle.account_shares.proofs.Cards.{front_in, jobs_of_in}

-- ---- the jobs of runs

views_are : (front : Front) (number : ℕ) (rs : List Run) → views_of (night_jobs front number rs) ≡ jobs_of front number (map cleaned_run rs)
views_are front number [] = refl
views_are front number (run ∷ rs) = ap (λ (js : List JobView). job_in front number run ∷ js) (views_are front (number + 1) rs)

-- ---- the runs of a window

-- these jobs are those of runs, from this number on
record AreOfRuns (front : Front) (number : ℕ) (rs : List Run) (some more : List NightJob) : Type 0 where
  pub first : List Run
  pub rest : List Run
  pub whole : rs ≡ first ++ rest
  pub some_are : night_jobs front number first ≡ some
  pub next : ℕ
  pub more_are : night_jobs front next rest ≡ more

abbrev first_of : NightJob → List NightJob → NightJob
first_of d [] = d
first_of d (x ∷ xs) = x

abbrev others_of : List NightJob → List NightJob
others_of [] = []
others_of (x ∷ xs) = xs

parted : (front : Front) (number : ℕ) (rs : List Run) (some more : List NightJob) → night_jobs front number rs ≡ some ++ more → AreOfRuns front number rs some more
parted front number rs [] more e = record { first = []; rest = rs; whole = refl; some_are = refl; next = number; more_are = e }
parted front number [] (job ∷ some) more e = absurd (let long : 0 ≡ suc (length (some ++ more)) = ap length e in omega arith)
parted front number (run ∷ rs) (job ∷ some) more e =
    let head : first_of job (night_jobs front number (run ∷ rs)) ≡ job = ap (first_of job) e in
    let rest = parted front (number + 1) rs some more (ap others_of e) in
    record {
      first = run ∷ rest.first;
      rest = rest.rest;
      whole = ap (λ (qs : List Run). run ∷ qs) rest.whole;
      some_are = λ i. head i ∷ rest.some_are i;
      next = rest.next;
      more_are = rest.more_are;
    }

front_runs : (rs qs : List Run) → AreRunsOf begins_job IsInLine (rs ++ qs) → AreRunsOf begins_job IsInLine rs
front_runs [] qs are = tt
front_runs (run ∷ rs) qs are = (are.0, front_runs rs qs are.1)

behind_runs : (rs qs : List Run) → AreRunsOf begins_job IsInLine (rs ++ qs) → AreRunsOf begins_job IsInLine qs
behind_runs [] qs are = are
behind_runs (run ∷ rs) qs are = behind_runs rs qs are.1

-- ---- their cards

heads_same : (lines : List (List ℕ)) → list_any is_head (map cleaned lines) ≡ list_any begins_job lines
heads_same [] = refl
heads_same (line ∷ lines) = ap (λ (v : Bool). begins_job line || v) (heads_same lines)

cleaned_runs : (rs : List Run) → AreRunsOf begins_job IsInLine rs → AreRuns (map cleaned_run rs)
cleaned_runs [] are = tt
cleaned_runs (run ∷ rs) are = (record { head_is = are.0.passes; none = heads_same run.behind ∙ are.0.none }, cleaned_runs rs are.1)

chosen_by : (v : Bool) (q : Run → Bool) (run : Run) (rs : List Run) → IsRunOf begins_job IsInLine run → AreRunsOf begins_job IsInLine (filter q rs) → AreRunsOf begins_job IsInLine (cond v (run ∷ filter q rs) (filter q rs))
chosen_by true q run rs this rest = (this, rest)
chosen_by false q run rs this rest = rest

chosen : (q : Run → Bool) (rs : List Run) → AreRunsOf begins_job IsInLine rs → AreRunsOf begins_job IsInLine (filter q rs)
chosen q [] are = tt
chosen q (run ∷ rs) are = chosen_by (q run) q run rs are.0 (chosen q rs are.1)

head_no_end : (card : List ℕ) → is_head card ≡ true → is_end card ≡ false
head_no_end card h = ap (λ (word : List ℕ). bytes_eq word (codes "%EOJ") && ends_a_word (drop 4 card)) (from_is_control (codes "%JOB") card h).0

place_same : (lines : List (List ℕ)) → position_or_len is_end (map cleaned lines) ≡ position_or_len ends_job lines
place_same [] = refl
place_same (line ∷ lines) = ap (λ (n : ℕ). cond (not (ends_job line)) (1 + n) 0) (place_same lines)

body_same : (run : Run) → body (cleaned_run run) ≡ map cleaned (before_first ends_job run.behind)
body_same run = ap (λ (n : ℕ). take n (map cleaned run.behind)) (place_same run.behind) ∙ take-map cleaned (position_or_len ends_job run.behind) run.behind

job_lines_are : (run : Run) → begins_job run.head ≡ true → job_lines run ≡ run.head ∷ before_first ends_job run.behind
job_lines_are run begins = before-past_all ends_job (run.head ∷ []) run.behind (ap (λ (v : Bool). v || false) (head_no_end (cleaned run.head) begins))

lines_are : (run : Run) → begins_job run.head ≡ true → map cleaned (job_lines run) ≡ job_cards (cleaned_run run)
lines_are run begins = ap (map cleaned) (job_lines_are run begins) ∙ ap (λ (cs : List (List ℕ)). cleaned run.head ∷ cs) (sym (body_same run))

all_lines_are : (rs : List Run) → AreRunsOf begins_job IsInLine rs → map cleaned (flat_map job_lines rs) ≡ flat_map job_cards (map cleaned_run rs)
all_lines_are [] are = refl
all_lines_are (run ∷ rs) are =
    let first = lines_are run are.0.passes in
    let rest = all_lines_are rs are.1 in
    map-append cleaned (job_lines run) (flat_map job_lines rs) ∙ (λ i. first i ++ rest i)

take_in_line : (n : ℕ) (lines : List (List ℕ)) → AllByRecursion IsInLine lines → AllByRecursion IsInLine (take n lines)
take_in_line zero lines all = tt
take_in_line (suc n) [] all = tt
take_in_line (suc n) (line ∷ lines) all = (all.0, take_in_line n lines all.1)

all_in_line : (rs : List Run) → AreRunsOf begins_job IsInLine rs → AllByRecursion IsInLine (flat_map job_lines rs)
all_in_line [] are = tt
all_in_line (run ∷ rs) are =
    all_append IsInLine (job_lines run) (flat_map job_lines rs) (take_in_line (position_or_len ends_job (run.head ∷ run.behind)) (run.head ∷ run.behind) (are.0.first, are.0.others)) (all_in_line rs are.1)

-- ---- the chosen ones

filter_mapped_by : (v : Bool) (run : Run) (xs ys : List Run) → xs ≡ map cleaned_run ys → cond v (cleaned_run run ∷ xs) xs ≡ map cleaned_run (cond v (run ∷ ys) ys)
filter_mapped_by true run xs ys e = ap (λ (rs : List Run). cleaned_run run ∷ rs) e
filter_mapped_by false run xs ys e = e

filter_mapped : (q : Run → Bool) (rs : List Run) → filter q (map cleaned_run rs) ≡ map cleaned_run (filter (λ run. q (cleaned_run run)) rs)
filter_mapped q [] = refl
filter_mapped q (run ∷ rs) = filter_mapped_by (q (cleaned_run run)) run (filter q (map cleaned_run rs)) (filter (λ r. q (cleaned_run r)) rs) (filter_mapped q rs)

own_same : (chains chain : ℕ) (account : Option ℕ) → is_of_chain chains chain account ≡ in_chain (chain_of chains) chain account
own_same chains chain None = refl
own_same chains chain (Some account) = refl

-- whether a run's job is in a share doesn't depend on its number
run_same : (own : Option ℕ → Bool) (front : Front) (number : ℕ) (run : Run) → run_is_in own front (cleaned_run run) ≡ own (job_in front number run).account
run_same own front number run =
    let c = cleaned_run run in
    ap own (account_by_any 0 number (length (body c) + 1) (list_any is_long (c.head ∷ body c)) (list_any is_foul (c.head ∷ body c)) (job_card c.head) (account_for front.accounts (job_card c.head)) (library_for front.shelf (job_card c.head)) _ _)

-- the text of a part's jobs
texts_by : (v w : Bool) (job : NightJob) (run : Run) (js : List NightJob) (rs : List Run) → v ≡ w → job.text ≡ text_of_lines (job_lines run) → flat_map (λ j. j.text) js ≡ text_of_lines (flat_map job_lines rs)
    → flat_map (λ j. j.text) (cond v (job ∷ js) js) ≡ text_of_lines (flat_map job_lines (cond w (run ∷ rs) rs))
texts_by true true job run js rs same text rest = (λ i. text i ++ rest i) ∙ sym (flat_map-append row (job_lines run) (flat_map job_lines rs))
texts_by true false job run js rs same text rest = cc
texts_by false true job run js rs same text rest = cc
texts_by false false job run js rs same text rest = rest

texts_are : (chains chain : ℕ) (front : Front) (number : ℕ) (rs : List Run)
    → flat_map (λ j. j.text) (jobs_of_chain chains chain (night_jobs front number rs)) ≡ text_of_lines (flat_map job_lines (filter (λ run. run_is_in (in_chain (chain_of chains) chain) front (cleaned_run run)) rs))
texts_are chains chain front number [] = refl
texts_are chains chain front number (run ∷ rs) =
    let own = in_chain (chain_of chains) chain in
    let same : is_of_chain chains chain (job_in front number run).account ≡ run_is_in own front (cleaned_run run) = own_same chains chain (job_in front number run).account ∙ sym (run_same own front number run) in
    texts_by (is_of_chain chains chain (job_in front number run).account) (run_is_in own front (cleaned_run run)) (record { job = job_in front number run; text = text_of_lines (job_lines run) }) run
    (jobs_of_chain chains chain (night_jobs front (number + 1) rs)) (filter (λ r. run_is_in own front (cleaned_run r)) rs) same refl (texts_are chains chain front (number + 1) rs)

-- a chain that has no job in a window has none of its views
views_by : (v w : Bool) (job : NightJob) (js : List NightJob) (vs : List JobView) → v ≡ w → views_of js ≡ vs → views_of (cond v (job ∷ js) js) ≡ cond w (job.job ∷ vs) vs
views_by true true job js vs same rest = ap (λ (xs : List JobView). job.job ∷ xs) rest
views_by true false job js vs same rest = cc
views_by false true job js vs same rest = cc
views_by false false job js vs same rest = rest

pub views_chosen : (chains chain : ℕ) (window : List NightJob) → views_of (jobs_of_chain chains chain window) ≡ filter (is_in (in_chain (chain_of chains) chain)) (views_of window)
views_chosen chains chain [] = refl
views_chosen chains chain (job ∷ window) =
    views_by (is_of_chain chains chain job.job.account) (in_chain (chain_of chains) chain job.job.account) job (jobs_of_chain chains chain window) (filter (is_in (in_chain (chain_of chains) chain)) (views_of window))
    (own_same chains chain job.job.account) (views_chosen chains chain window)

-- ---- accounts as earlier jobs leave them have the same names

closed_place : (openings : List ℕ) (jobs : List JobView) (name : List ℕ) (number : ℕ) (accounts : List Account)
    → position_or_len (λ a. bytes_eq a.name name) (map (λ p. closed_account openings jobs p.0 p.1) (enumerate_from number accounts)) ≡ position_or_len (λ a. bytes_eq a.name name) accounts
closed_place openings jobs name number [] = refl
closed_place openings jobs name number (a ∷ accounts) = ap (λ (n : ℕ). cond (not (bytes_eq a.name name)) (1 + n) 0) (closed_place openings jobs name (number + 1) accounts)

closed_many : (openings : List ℕ) (jobs : List JobView) (number : ℕ) (accounts : List Account) → length (map (λ p. closed_account openings jobs p.0 p.1) (enumerate_from number accounts)) ≡ length accounts
closed_many openings jobs number [] = refl
closed_many openings jobs number (a ∷ accounts) = ap suc (closed_many openings jobs (number + 1) accounts)

closed_found : (openings : List ℕ) (jobs : List JobView) (accounts : List Account) (name : List ℕ) → account_of (closed_accounts openings jobs accounts) name ≡ account_of accounts name
closed_found openings jobs accounts name =
    let place = closed_place openings jobs name 0 accounts in
    let many = closed_many openings jobs 0 accounts in
    λ i. cond (nat_lt (place i) (many i)) (Some (place i)) None

closed_for : (openings : List ℕ) (jobs : List JobView) (accounts : List Account) (card : Option JobCard) → account_for (closed_accounts openings jobs accounts) card ≡ account_for accounts card
closed_for openings jobs accounts None = refl
closed_for openings jobs accounts (Some card) = closed_found openings jobs accounts card.account

module _ (openings : List ℕ) (earlier : List JobView) (front : Front) where
  -- the same front, with the accounts as these jobs leave them
  abbrev then : Front
  then = record { accounts = closed_accounts openings earlier front.accounts; shelf = front.shelf }

  job_same : (number : ℕ) (head : List ℕ) (behind : List (List ℕ)) → job_of then number head behind ≡ job_of front number head behind
  job_same number head behind =
      ap (λ (payer : Option ℕ). job_from number (length behind + 1) (list_any is_long (head ∷ behind)) (list_any is_foul (head ∷ behind)) (job_card head) payer (library_for front.shelf (job_card head)) (before_first is_data behind) (after_first is_data behind))
      (closed_for openings earlier front.accounts (job_card head))

  jobs_same : (number : ℕ) (rs : List Run) → jobs_of then number rs ≡ jobs_of front number rs
  jobs_same number [] = refl
  jobs_same number (run ∷ rs) = let first = job_same number run.head (body run) in let rest = jobs_same (number + 1) rs in λ i. first i ∷ rest i

  in_by : (v w : Bool) (run : Run) (xs ys : List Run) → v ≡ w → xs ≡ ys → cond v (run ∷ xs) xs ≡ cond w (run ∷ ys) ys
  in_by v w run xs ys same rest = λ i. cond (same i) (run ∷ rest i) (rest i)

  chosen_same : (own : Option ℕ → Bool) (rs : List Run) → filter (run_is_in own then) rs ≡ filter (run_is_in own front) rs
  chosen_same own [] = refl
  chosen_same own (run ∷ rs) =
      in_by (run_is_in own then run) (run_is_in own front run) run (filter (run_is_in own then) rs) (filter (run_is_in own front) rs)
      (ap (λ (job : JobView). own job.account) (job_same 0 run.head (body run))) (chosen_same own rs)

-- ---- the batch

module _ (accounts : List Account) (lines : List (List ℕ)) (own : Option ℕ → Bool) (earlier : List JobView) where
  abbrev share_front : Front
  share_front = night_front accounts lines

  abbrev share_given : List Account
  share_given = part_from own 0 (closed_accounts (openings_of accounts) earlier accounts)

  -- the libraries' cards, and those of a share's jobs, with the share's accounts as earlier jobs leave them
  batch_is : (number : ℕ) (rs : List Run) → AreRunsOf begins_job IsInLine rs
      → batch_of (Some share_given) (shelf_lines (shelf lines) ++ flat_map job_cards (filter (run_is_in own share_front) (map cleaned_run rs)))
      ≡ record { accounts = share_given; jobs = numbered_in own 1 (filter (is_in own) (jobs_of share_front number (map cleaned_run rs))); stray = 0 }
  batch_is number rs are =
      let libs = shelf_lines (shelf lines) in
      let chosen_runs = filter (run_is_in own share_front) (map cleaned_run rs) in
      let those = filter (λ run. run_is_in own share_front (cleaned_run run)) rs in
      let are_runs : AreRuns chosen_runs =
      subst AreRuns (sym (filter_mapped (run_is_in own share_front) rs)) (cleaned_runs those (chosen (λ run. run_is_in own share_front (cleaned_run run)) rs are)) in
      let some = libs ++ flat_map job_cards chosen_runs in
      let no_head = no_jobs lines in
      let first : before_head some ≡ libs = before-past_all is_head libs (flat_map job_cards chosen_runs) no_head ∙ ap (λ (xs : List (List ℕ)). libs ++ xs) (first_is_head chosen_runs are_runs) ∙ append-nil libs in
      let all : runs some ≡ map closed chosen_runs = runs_past libs (flat_map job_cards chosen_runs) no_head ∙ runs_again chosen_runs are_runs in
      let kept : map shelved (libraries_in (before_head some)) ≡ shelf lines = ap (λ (xs : List (List ℕ)). map shelved (libraries_in xs)) first ∙ shelf_stays lines in
      let alike : front_of (Some share_given) some ≡ front_in own (then (openings_of accounts) earlier share_front) = ap (λ (s : List Shelved). record { accounts = share_given; shelf = s }) kept in
      let moved : chosen_runs ≡ filter (run_is_in own (then (openings_of accounts) earlier share_front)) (map cleaned_run rs) = sym (chosen_same (openings_of accounts) earlier share_front own (map cleaned_run rs)) in
      let jobs : jobs_of (front_of (Some share_given) some) 1 (runs some) ≡ numbered_in own 1 (filter (is_in own) (jobs_of share_front number (map cleaned_run rs))) =
      ap (λ (f : Front). jobs_of f 1 (runs some)) alike
      ∙ ap (jobs_of (front_in own (then (openings_of accounts) earlier share_front)) 1) (all ∙ ap (map closed) moved)
      ∙ jobs_of_in own (then (openings_of accounts) earlier share_front) (map cleaned_run rs) 1 number
      ∙ ap (λ (js : List JobView). numbered_in own 1 (filter (is_in own) js)) (jobs_same (openings_of accounts) earlier share_front number (map cleaned_run rs)) in
      let shown : written (before_head some) ≡ written libs = ap written first in
      let counted : shelf_cards (libraries_in (before_head some)) ≡ shelf_cards (libraries_in libs) = ap (λ (xs : List (List ℕ)). shelf_cards (libraries_in xs)) first in
      let outer : sum_by (λ run. written (outside run)) (runs some) ≡ 0 = ap (sum_by (λ run. written (outside run))) all ∙ none_outside chosen_runs in
      let stray : strays (Some share_given) some ≡ 0 = omega (arith, shown, counted, all_claimed lines, outer) in
      λ i. record { accounts = share_given; jobs = jobs i; stray = stray i }

-- ---- its bytes

part_by : (libraries : List ℕ) (js : List NightJob) (P : List ℕ → Type 0) → (js ≡ [] → P []) → P (libraries ++ flat_map (λ j. j.text) js) → P (part_text libraries js)
part_by libraries [] P none some = none refl
part_by libraries (job ∷ js) P none some = some

module _ (chains chain : ℕ) (accounts : List Account) (lines : List (List ℕ)) (earlier : List JobView) where
  abbrev part_own : Option ℕ → Bool
  part_own = in_chain (chain_of chains) chain

  abbrev part_front : Front
  part_front = night_front accounts lines

  abbrev part_given : List Account
  part_given = part_from part_own 0 (closed_accounts (openings_of accounts) earlier accounts)

  bytes_are : (number : ℕ) (rs : List Run) → AreRunsOf begins_job IsInLine rs
      → batch_with (Some part_given) (libraries_text (shelf lines) ++ flat_map (λ j. j.text) (jobs_of_chain chains chain (night_jobs part_front number rs)))
      ≡ record { accounts = part_given; jobs = numbered_in part_own 1 (filter (is_in part_own) (views_of (night_jobs part_front number rs))); stray = 0 }
  bytes_are number rs are =
      let those = filter (λ run. run_is_in part_own part_front (cleaned_run run)) rs in
      let those_are = chosen (λ run. run_is_in part_own part_front (cleaned_run run)) rs are in
      let all = shelf_lines (shelf lines) ++ flat_map job_lines those in
      let one = text_is (shelf lines) in
      let other = texts_are chains chain part_front number rs in
      let text : libraries_text (shelf lines) ++ flat_map (λ j. j.text) (jobs_of_chain chains chain (night_jobs part_front number rs)) ≡ text_of_lines all =
      (λ i. one i ++ other i) ∙ sym (flat_map-append row (shelf_lines (shelf lines)) (flat_map job_lines those)) in
      let kept = stays lines in
      let mine : map cleaned (flat_map job_lines those) ≡ flat_map job_cards (filter (run_is_in part_own part_front) (map cleaned_run rs)) =
      all_lines_are those those_are ∙ ap (flat_map job_cards) (sym (filter_mapped (run_is_in part_own part_front) rs)) in
      let read : cards (text_of_lines all) ≡ shelf_lines (shelf lines) ++ flat_map job_cards (filter (run_is_in part_own part_front) (map cleaned_run rs)) =
      cards_of_lines all (all_append IsInLine (shelf_lines (shelf lines)) (flat_map job_lines those) (in_lines lines) (all_in_line those those_are))
      ∙ map-append cleaned (shelf_lines (shelf lines)) (flat_map job_lines those) ∙ (λ i. kept i ++ mine i) in
      ap (batch_with (Some part_given)) text
      ∙ ap (batch_of (Some part_given)) read
      ∙ batch_is accounts lines part_own earlier number rs are
      ∙ ap (λ (js : List JobView). record { accounts = part_given; jobs = numbered_in part_own 1 (filter (is_in part_own) js); stray = 0 }) (sym (views_are part_front number rs))

pub parts_are_batches : PartsAreBatches
parts_are_batches chains chain accounts bytes earlier window more whole =
    let lines = pieces bytes in
    let own = in_chain (chain_of chains) chain in
    let front = night_front accounts lines in
    let given = accounts_then chains chain accounts (views_of earlier) in
    let all = runs_of begins_job IsInLine lines (pieces_in_line bytes) in
    let behind = parted front 1 (line_runs lines) earlier (window ++ more) whole in
    let here = parted front behind.next behind.rest window more behind.more_are in
    let rest_are : AreRunsOf begins_job IsInLine behind.rest = behind_runs behind.first behind.rest (subst (AreRunsOf begins_job IsInLine) behind.whole all) in
    let are : AreRunsOf begins_job IsInLine here.first = front_runs here.first here.rest (subst (AreRunsOf begins_job IsInLine) here.whole rest_are) in
    let Is : List NightJob → List ℕ → Type 0 = λ js text. batch_with (Some given) text ≡ record { accounts = given; jobs = numbered_in own 1 (filter (is_in own) (views_of js)); stray = 0 } in
    let chosen_jobs = jobs_of_chain chains chain window in
    part_by (night_libraries accounts lines) chosen_jobs (Is window)
    (λ none. ap (λ (js : List JobView). record { accounts = given; jobs = numbered_in own 1 js; stray = 0 }) (ap views_of (sym none) ∙ views_chosen chains chain window))
    (subst (λ (js : List NightJob). Is js (night_libraries accounts lines ++ flat_map (λ j. j.text) (jobs_of_chain chains chain js))) here.some_are
    (bytes_are chains chain accounts lines (views_of earlier) behind.next here.first are))

-- ---- no job's text is empty

abbrev pub HasText : NightJob → Type 0
HasText job = 0 < length job.text

text_some : (run : Run) → begins_job run.head ≡ true → 0 < length (text_of_lines (job_lines run))
text_some run begins =
    let rest = text_of_lines (before_first ends_job run.behind) in
    let whole : text_of_lines (job_lines run) ≡ row run.head ++ rest = ap text_of_lines (job_lines_are run begins) in
    omega (arith, ap length whole, length-append (row run.head) rest, length-append run.head (10 ∷ []))

jobs_some : (front : Front) (number : ℕ) (rs : List Run) → AreRunsOf begins_job IsInLine rs → AllByRecursion HasText (night_jobs front number rs)
jobs_some front number [] are = tt
jobs_some front number (run ∷ rs) are = (text_some run are.0.passes, jobs_some front (number + 1) rs are.1)

pub texts_some : (accounts : List Account) (bytes : List ℕ) → AllByRecursion HasText (jobs_of_lines accounts (pieces bytes))
texts_some accounts bytes = jobs_some (night_front accounts (pieces bytes)) 1 (line_runs (pieces bytes)) (runs_of begins_job IsInLine (pieces bytes) (pieces_in_line bytes))

jobs_front : (xs ys : List NightJob) → AllByRecursion HasText (xs ++ ys) → AllByRecursion HasText xs
jobs_front [] ys all = tt
jobs_front (x ∷ xs) ys all = (all.0, jobs_front xs ys all.1)

jobs_behind : (xs ys : List NightJob) → AllByRecursion HasText (xs ++ ys) → AllByRecursion HasText ys
jobs_behind [] ys all = all
jobs_behind (x ∷ xs) ys all = jobs_behind xs ys all.1

some_by : (v : Bool) (job : NightJob) (js : List NightJob) → HasText job → AllByRecursion HasText js → AllByRecursion HasText (cond v (job ∷ js) js)
some_by true job js this rest = (this, rest)
some_by false job js this rest = rest

chosen_some : (chains chain : ℕ) (window : List NightJob) → AllByRecursion HasText window → AllByRecursion HasText (jobs_of_chain chains chain window)
chosen_some chains chain [] all = tt
chosen_some chains chain (job ∷ window) all = some_by (is_of_chain chains chain job.job.account) job (jobs_of_chain chains chain window) all.0 (chosen_some chains chain window all.1)

part_some : (libraries : List ℕ) (js : List NightJob) → AllByRecursion HasText js → 0 < length js → 0 < length (part_text libraries js)
part_some libraries [] all many = absurd (omega (arith, many))
part_some libraries (job ∷ js) all many =
    let this : 0 < length job.text = all.0 in
    omega (arith, this, length-append libraries (flat_map (λ j. j.text) (job ∷ js)), length-append job.text (flat_map (λ j. j.text) js))

-- a part that has a job has cards
pub cards_some : (chains chain : ℕ) (libraries : List ℕ) (earlier window more : List NightJob) → AllByRecursion HasText (earlier ++ (window ++ more)) → 0 < length (jobs_of_chain chains chain window)
    → 0 < length (part_text libraries (jobs_of_chain chains chain window))
cards_some chains chain libraries earlier window more all many =
    part_some libraries (jobs_of_chain chains chain window) (chosen_some chains chain window (jobs_front window more (jobs_behind earlier (window ++ more) all))) many

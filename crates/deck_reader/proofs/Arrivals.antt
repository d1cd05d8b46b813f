-- A reading, when one card more comes.
use Rattle.std.proofs.Common.{◌≡◌, ℕ, suc, ◌+◌, ◌-◌, ◌^◌, ◌<◌, ◌≤◌, min, Bool, true, false, cond, not, ◌||◌, nat_lt, List, [], ◌∷◌, ◌++◌, length, map, Option, Some, None, is_some, IsSome, refl, sym, ap, subst, ◌∙◌, arith, inr, sum_by, count_by, append_assoc}
use Rattle.std.proofs.lemmas.Bool.Decides.{nat_tests}
use Rattle.std.proofs.lemmas.List.{length-append}
use Rattle.std.proofs.lemmas.List.Sums.{sum_by_push, count_by-le-length, prefix_len-le-length}
use Rattle.deck_reader.specs.declared.batch.Account.{Account}
use Rattle.deck_reader.specs.declared.batch.Batch.{Batch}
use Rattle.deck_reader.specs.declared.open_job.OpenJob.{OpenJob}
use Rattle.deck_reader.specs.declared.open_library.OpenLibrary.{OpenLibrary}
use Rattle.deck_reader.specs.declared.reading.Reading.{Reading}
use Rattle.deck_reader.specs.declared.reading.Stage.{Stage}
use Rattle.deck_reader.specs.declared.reading.Stage.TheVariants.{Front, Library, Inside, Outside}
use Rattle.deck_reader.specs.LibraryView.{Shelved}
use Rattle.deck_reader.specs.JobView.{JobView}
use Rattle.deck_reader.specs.Forms.{is_head, is_end, is_control_card}
use Rattle.deck_reader.specs.Batch.{Run, runs_by, runs, outside, before_head, is_ended, account_on, with_account, opened, library_on, libraries_on, with_library, libraries_in, shelved, shelf_cards, written, accounts_from, accounts_of, front_from, front_of, openings_in, claimed, strays, job_of, jobs_of, batch_of}
use Rattle.deck_reader.specs.Batch as batches
use Rattle.deck_reader.specs.Shelves.{free_name}
use Rattle.deck_reader.specs.Reading.{IsOpenLibrary, Grows, Pushes, IsOpenJob, closed, shelf_with, jobs_with, Closes, AtShelf, AtStage, is_front, IsReading, put_back, with_stray, Does, TakesControl}
use Rattle.deck_reader.proofs.Firsts.{list_any-push, before-none, before-found, before-here, after-none, after-found, after-here, after-past}
use Rattle.deck_reader.proofs.Openings.{opened-push}
use Rattle.deck_reader.proofs.Runs.{with_card, length-before_first, outside_all-le, none_passes, some_passes, before-passing, runs-passing, runs-other, runs-none, length-runs, jobs_of-push}
use Rattle.deck_reader.proofs.Shelving.{no_account, library_no_account, library_written, all_there, in_library, in_library-cards, in_none, Kind, begins_one, begins_none, control_kind, begun_now, begun_cards, none_now}
use Rattle.deck_reader.proofs.OpenJobs.{pushed, closed_is}

back_with : (stage : Stage) (taken jobs : List JobView) → taken ++ jobs_with stage jobs ≡ jobs_with stage (taken ++ jobs)
back_with Front taken jobs = refl
back_with (Library library) taken jobs = refl
back_with (Inside job) taken jobs = sym (append_assoc taken jobs (closed job ∷ []))
back_with Outside taken jobs = refl

-- a job is ended so, whatever jobs were taken before
pub closes_back : (old new : Reading) (taken : List JobView) → Closes old new → Closes (put_back taken old) (put_back taken new)
closes_back old new taken closes = record {
  given = closes.given;
  accounts = closes.accounts;
  shelf = closes.shelf;
  jobs = ap (λ (js : List JobView). taken ++ js) closes.jobs ∙ back_with old.stage taken old.jobs;
  heads = closes.heads;
  stray = closes.stray;
  stage = closes.stage;
}

-- how many cards of one are written
abbrev one : List ℕ → ℕ
one card = cond (nat_lt 0 (length card)) 1 0

written-push : (cards : List (List ℕ)) (card : List ℕ) → written (cards ++ card ∷ []) ≡ written cards + one card
written-push cards card = sum_by_push (λ (c : List ℕ). cond (nat_lt 0 (length c)) 1 0) cards card

heads-push : (cards : List (List ℕ)) (card : List ℕ) → count_by is_head (cards ++ card ∷ []) ≡ count_by is_head cards + cond (is_head card) 1 0
heads-push cards card = sum_by_push (λ (c : List ℕ). cond (is_head c) 1 0) cards card

heads-head : (cards : List (List ℕ)) (card : List ℕ) → is_head card ≡ true → count_by is_head (cards ++ card ∷ []) ≡ count_by is_head cards + 1
heads-head cards card h = heads-push cards card ∙ ap (λ (b : Bool). count_by is_head cards + cond b 1 0) h

heads-other : (cards : List (List ℕ)) (card : List ℕ) → is_head card ≡ false → count_by is_head (cards ++ card ∷ []) ≡ count_by is_head cards
heads-other cards card h =
    let none : count_by is_head cards + 0 ≡ count_by is_head cards = omega arith in
    heads-push cards card ∙ ap (λ (b : Bool). count_by is_head cards + cond b 1 0) h ∙ none

-- stray cards are cards
strays-le : (given : Option (List Account)) (cards : List (List ℕ)) → strays given cards ≤ length cards
strays-le given cards =
    omega (arith, outside_all-le cards, length-before_first is_head cards, count_by-le-length (λ (c : List ℕ). nat_lt 0 (length c)) (before_head cards))

-- the jobs of all runs
pub all_jobs : (stage : Stage) (front : batches.Front) (cards : List (List ℕ)) (jobs : List JobView) → AtStage stage front cards jobs → jobs_with stage jobs ≡ jobs_of front 1 (runs cards)
all_jobs Front front cards jobs at = at.1 ∙ sym (ap (jobs_of front 1) at.0)
all_jobs (Library library) front cards jobs at = at.1 ∙ sym (ap (jobs_of front 1) at.0)
all_jobs (Inside job) front cards jobs at =
    let done = at.0 in
    let last = at.1 in
    let number : length done + 1 ≡ 1 + length done = omega arith in
    ap (λ (js : List JobView). js ++ closed job ∷ []) at.4
    ∙ ap (λ (j : JobView). jobs_of front 1 done ++ j ∷ [])
    (closed_is front (length done + 1) last.head last.behind job at.5
    ∙ ap (λ (n : ℕ). job_of front n last.head last.behind) number
    ∙ ap (λ (cs : List (List ℕ)). job_of front (1 + length done) last.head cs) (sym (before-none is_end last.behind at.3)))
    ∙ sym (jobs_of-push front 1 done last)
    ∙ sym (ap (jobs_of front 1) at.2)
all_jobs Outside front cards jobs at = at.4

-- the stray cards behind a head more
strays-head : (given : Option (List Account)) (cards : List (List ℕ)) (head : List ℕ) → is_head head ≡ true → strays given (cards ++ head ∷ []) ≡ strays given cards
strays-head given cards head h =
    let none : sum_by (λ (run : Run). written (outside run)) (runs cards) + 0 ≡ sum_by (λ (run : Run). written (outside run)) (runs cards) = omega arith in
    ap (λ (front : List (List ℕ)). (written front - claimed given front) + sum_by (λ (run : Run). written (outside run)) (runs (cards ++ head ∷ []))) (before-passing is_head cards head h)
    ∙ ap (λ (n : ℕ). (written (before_head cards) - claimed given (before_head cards)) + n)
    (ap (sum_by (λ (run : Run). written (outside run))) (runs-passing is_head cards head h)
    ∙ sum_by_push (λ (run : Run). written (outside run)) (runs cards) (record { head = head; behind = [] })
    ∙ none)

subst_length : (xs ys : List Run) → ys ≡ xs → 0 < length ys → 0 < length xs
subst_length xs ys h k = omega (arith, ap length h)

add_up : (front sum sum' base new old more : ℕ) → sum ≡ base + new → sum' ≡ base + old → new ≡ old + more → front + sum ≡ front + sum' + more
add_up front sum sum' base new old more h k l = omega arith

-- the stray cards behind a card more in the last run
strays-card : (given : Option (List Account)) (cards : List (List ℕ)) (card : List ℕ) (done : List Run) (last : Run) (more : ℕ) → is_head card ≡ false → runs cards ≡ done ++ last ∷ []
    → written (outside (with_card last card)) ≡ written (outside last) + more → strays given (cards ++ card ∷ []) ≡ strays given cards + more
strays-card given cards card done last more other is step =
    let f : Run → ℕ = λ run. written (outside run) in
    let some : 0 < length (runs cards) = subst_length (runs cards) (done ++ last ∷ []) (sym is) (omega (arith, length-append done (last ∷ []))) in
    let front : before_head (cards ++ card ∷ []) ≡ before_head cards = before-found is_head cards card (some_passes is_head cards some) in
    let sum : sum_by f (runs (cards ++ card ∷ [])) ≡ sum_by f done + f (with_card last card) =
    ap (sum_by f) (runs-other is_head cards card done last other is) ∙ sum_by_push f done (with_card last card) in
    let sum' : sum_by f (runs cards) ≡ sum_by f done + f last = ap (sum_by f) is ∙ sum_by_push f done last in
    ap (λ (front : List (List ℕ)). (written front - claimed given front) + sum_by f (runs (cards ++ card ∷ []))) front
    ∙ add_up (written (before_head cards) - claimed given (before_head cards)) (sum_by f (runs (cards ++ card ∷ []))) (sum_by f (runs cards)) (sum_by f done) (f (with_card last card)) (f last) more sum sum' step

-- an ended run with a card more
outside-ended : (run : Run) (card : List ℕ) → is_ended run ≡ true → written (outside (with_card run card)) ≡ written (outside run) + one card
outside-ended run card h = ap written (after-found is_end run.behind card h) ∙ written-push (outside run) card

-- a run that isn't ended, with a card more
outside-by : (ends : Bool) (run : Run) (card : List ℕ) → is_ended run ≡ false → is_end card ≡ ends → written (outside (with_card run card)) ≡ written (outside run) + 0
outside-by true run card h this = ap written (after-here is_end run.behind card h this) ∙ sym (ap (λ (cs : List (List ℕ)). written cs + 0) (after-none is_end run.behind h))
outside-by false run card h this = ap written (after-past is_end run.behind card h this) ∙ sym (ap (λ (cs : List (List ℕ)). written cs + 0) (after-none is_end run.behind h))

-- what the jobs are judged by, where these are the accounts and the libraries
fronts : (given : Option (List Account)) (accounts : List Account) (shelf : List Shelved) (cards : List (List ℕ)) → accounts ≡ accounts_of given cards → shelf ≡ map shelved (libraries_in (before_head cards)) → front_of given cards ≡ record { accounts = accounts; shelf = shelf }
fronts given accounts shelf cards h k =
    sym (ap (λ (xs : List Account). record { accounts = xs; shelf = shelf }) h ∙ ap (λ (s : List Shelved). record { accounts = accounts_of given cards; shelf = s }) k)

-- a reading with a head more: what was before is closed, and this job is open
pub begun : (given : Option (List Account)) (old between new : Reading) (cards : List (List ℕ)) (head : List ℕ) (job : OpenJob) → length cards < 2 ^ 31 → is_head head ≡ true → IsReading given old cards → Closes old between
    → new.given ≡ between.given → new.accounts ≡ between.accounts → new.shelf ≡ between.shelf → new.jobs ≡ between.jobs → new.heads ≡ min (between.heads + 1) (2 ^ 32 - 1) → new.stray ≡ between.stray → new.stage ≡ Inside job
    → IsOpenJob (record { accounts = between.accounts; shelf = between.shelf }) (min (between.heads + 1) (2 ^ 32 - 1)) head [] job → IsReading given new (cards ++ head ∷ [])
begun given old between new cards head job few is at closes given_same accounts shelf jobs heads stray stage opens =
    let before = before-passing is_head cards head is in
    let front = front_of given cards in
    let heads_before : between.heads ≡ count_by is_head cards = closes.heads ∙ at.heads_are in
    let shelf_is : between.shelf ≡ map shelved (libraries_in (before_head cards)) = closes.shelf ∙ all_there old.stage old.shelf (runs_by is_control_card (before_head cards)) at.at_shelf in
    let judged : front ≡ record { accounts = between.accounts; shelf = between.shelf } = fronts given between.accounts between.shelf cards (closes.accounts ∙ at.accounts_are) shelf_is in
    let all : between.jobs ≡ jobs_of front 1 (runs cards) = closes.jobs ∙ all_jobs old.stage front cards old.jobs at.at_stage in
    let number : min (between.heads + 1) (2 ^ 32 - 1) ≡ length (runs cards) + 1 = omega (arith, length-runs is_head cards, count_by-le-length is_head cards) in
    let opens' : IsOpenJob front (length (runs cards) + 1) head [] job =
    let P : batches.Front → Type 0 = λ f. IsOpenJob f (length (runs cards) + 1) head [] job in
    let Q : ℕ → Type 0 = λ n. IsOpenJob (record { accounts = between.accounts; shelf = between.shelf }) n head [] job in
    subst P (sym judged) (subst Q number opens) in
    let staged : AtStage (Inside job) front (cards ++ head ∷ []) between.jobs =
    (runs cards, record { head = head; behind = [] }, runs-passing is_head cards head is, refl, all, opens') in
    let S : batches.Front → Type 0 = λ f. AtStage (Inside job) f (cards ++ head ∷ []) between.jobs in
    let T : List JobView → Type 0 = λ js. AtStage (Inside job) (front_of given (cards ++ head ∷ [])) (cards ++ head ∷ []) js in
    let U : Stage → Type 0 = λ s. AtStage s (front_of given (cards ++ head ∷ [])) (cards ++ head ∷ []) new.jobs in
    let V : Stage → Type 0 = λ s. AtShelf s new.shelf (runs_by is_control_card (before_head (cards ++ head ∷ []))) in
    record {
      given_is = given_same ∙ closes.given ∙ at.given_is;
      accounts_are = accounts ∙ closes.accounts ∙ at.accounts_are ∙ sym (ap (accounts_from given) before);
      written_more = omega (arith, at.written_more, ap (claimed given) before, ap written before);
      heads_are = heads ∙ (let once : min (between.heads + 1) (2 ^ 32 - 1) ≡ count_by is_head cards + 1 = omega (arith, count_by-le-length is_head cards) in once) ∙ sym (heads-head cards head is);
      stray_is = stray ∙ closes.stray ∙ at.stray_is ∙ sym (strays-head given cards head is);
      at_shelf = subst V (sym stage) (shelf ∙ shelf_is ∙ sym (ap (λ (cs : List (List ℕ)). map shelved (libraries_in cs)) before));
      at_stage = subst U (sym stage) (subst T (sym jobs) (subst S (sym (ap (front_from given) before)) staged));
    }

-- a reading that keeps its accounts, its libraries and its heads, with a card more behind the last head
behind_head : (given : Option (List Account)) (old new : Reading) (cards : List (List ℕ)) (card : List ℕ) (done : List Run) (last : Run) (more : ℕ) → length cards < 2 ^ 31 → is_head card ≡ false → IsReading given old cards → runs cards ≡ done ++ last ∷ []
    → written (outside (with_card last card)) ≡ written (outside last) + more → new.given ≡ old.given → new.accounts ≡ old.accounts → new.heads ≡ old.heads → new.stray ≡ old.stray + more
    → AtShelf new.stage new.shelf (runs_by is_control_card (before_head cards)) → AtStage new.stage (front_of given cards) (cards ++ card ∷ []) new.jobs → IsReading given new (cards ++ card ∷ [])
behind_head given old new cards card done last more few other at is step given_same accounts heads stray shelf stage =
    let some : 0 < length (runs cards) = subst_length (runs cards) (done ++ last ∷ []) (sym is) (omega (arith, length-append done (last ∷ []))) in
    let before : before_head (cards ++ card ∷ []) ≡ before_head cards = before-found is_head cards card (some_passes is_head cards some) in
    let P : List (List ℕ) → Type 0 = λ cs. AtShelf new.stage new.shelf (runs_by is_control_card cs) in
    let Q : batches.Front → Type 0 = λ f. AtStage new.stage f (cards ++ card ∷ []) new.jobs in
    record {
      given_is = given_same ∙ at.given_is;
      accounts_are = accounts ∙ at.accounts_are ∙ sym (ap (accounts_from given) before);
      written_more = omega (arith, at.written_more, ap (claimed given) before, ap written before);
      heads_are = heads ∙ at.heads_are ∙ sym (heads-other cards card other);
      stray_is = stray ∙ ap (λ (n : ℕ). n + more) at.stray_is ∙ sym (strays-card given cards card done last more other is step);
      at_shelf = subst P (sym before) shelf;
      at_stage = subst Q (sym (ap (front_from given) before)) stage;
    }

once : (n : ℕ) → n < 2 ^ 31 → min (n + 1) (2 ^ 32 - 1) ≡ n + 1
once n h = omega arith

stray_by : (some : Bool) (old new bound : ℕ) → old ≤ bound → bound < 2 ^ 31 → new ≡ cond some (min (old + 1) (2 ^ 32 - 1)) old → new ≡ old + cond some 1 0
stray_by true old new bound small few is = is ∙ once old (omega arith)
stray_by false old new bound small few is = let none : old ≡ old + 0 = omega arith in is ∙ none

make_shelf : (stage : Stage) (shelf : List Shelved) (controls : List Run) → is_front stage ≡ false → shelf ≡ map shelved (libraries_on controls) → AtShelf stage shelf controls
make_shelf Front shelf controls behind are = cc
make_shelf (Library library) shelf controls behind are = cc
make_shelf (Inside job) shelf controls behind are = are
make_shelf Outside shelf controls behind are = are

pub from_shelf : (stage : Stage) (shelf : List Shelved) (controls : List Run) → is_front stage ≡ false → AtShelf stage shelf controls → shelf ≡ map shelved (libraries_on controls)
from_shelf Front shelf controls behind at = cc
from_shelf (Library library) shelf controls behind at = cc
from_shelf (Inside job) shelf controls behind at = at
from_shelf Outside shelf controls behind at = at

-- a stage of a reading with these libraries and jobs
moved : (stage : Stage) (new : Reading) (front : batches.Front) (cards : List (List ℕ)) (jobs : List JobView) → new.jobs ≡ jobs → new.stage ≡ stage → AtStage stage front cards jobs → AtStage new.stage front cards new.jobs
moved stage new front cards jobs k l at =
    let S : Stage → Type 0 = λ s. AtStage s front cards new.jobs in
    let U : List JobView → Type 0 = λ js. AtStage stage front cards js in
    subst S (sym l) (subst U (sym k) at)

-- the libraries stay behind the first head
shelf_stays : (stage old_stage : Stage) (new : Reading) (shelf : List Shelved) (controls : List Run) → is_front stage ≡ false → new.stage ≡ stage → is_front old_stage ≡ false → new.shelf ≡ shelf → AtShelf old_stage shelf controls → AtShelf new.stage new.shelf controls
shelf_stays stage old_stage new shelf controls behind is was same at =
    let S : Stage → Type 0 = λ s. AtShelf s new.shelf controls in
    subst S (sym is) (make_shelf stage new.shelf controls behind (same ∙ from_shelf old_stage shelf controls was at))

-- behind a job's end, a card more is stray unless it is blank
pub strayed : (given : Option (List Account)) (old new : Reading) (cards : List (List ℕ)) (card : List ℕ) → length cards < 2 ^ 31 → is_head card ≡ false → IsReading given old cards → old.stage ≡ Outside
    → new.given ≡ old.given → new.accounts ≡ old.accounts → new.shelf ≡ old.shelf → new.jobs ≡ old.jobs → new.heads ≡ old.heads → new.stray ≡ with_stray old.stray card → new.stage ≡ Outside → IsReading given new (cards ++ card ∷ [])
strayed given old new cards card few other at stage given_same accounts shelf jobs heads strays' stage' =
    let front = front_of given cards in
    let A : Stage → Type 0 = λ s. AtStage s front cards old.jobs in
    let outside = subst A stage at.at_stage in
    let done = outside.0 in
    let last = outside.1 in
    let stray : new.stray ≡ old.stray + one card =
    stray_by (nat_lt 0 (length card)) old.stray new.stray (length cards) (omega (arith, at.stray_is, strays-le given cards)) few strays' in
    let all : jobs_of front 1 (runs (cards ++ card ∷ [])) ≡ jobs_of front 1 (runs cards) =
    ap (jobs_of front 1) (runs-other is_head cards card done last other outside.2)
    ∙ jobs_of-push front 1 done (with_card last card)
    ∙ ap (λ (cs : List (List ℕ)). jobs_of front 1 done ++ job_of front (1 + length done) last.head cs ∷ []) (before-found is_end last.behind card outside.3)
    ∙ sym (jobs_of-push front 1 done last)
    ∙ sym (ap (jobs_of front 1) outside.2) in
    let staged : AtStage Outside front (cards ++ card ∷ []) old.jobs =
    (done, with_card last card, runs-other is_head cards card done last other outside.2, list_any-push is_end last.behind card ∙ ap (λ (b : Bool). b || is_end card) outside.3, outside.4 ∙ sym all) in
    behind_head given old new cards card done last (one card) few other at outside.2 (outside-ended last card outside.3) given_same accounts heads stray
    (shelf_stays Outside old.stage new old.shelf (runs_by is_control_card (before_head cards)) refl stage' (ap is_front stage) shelf at.at_shelf)
    (moved Outside new front (cards ++ card ∷ []) old.jobs jobs stage' staged)

-- in a job, its end card closes it
pub ended_job : (given : Option (List Account)) (old new : Reading) (cards : List (List ℕ)) (card : List ℕ) (job : OpenJob) → length cards < 2 ^ 31 → is_head card ≡ false → is_end card ≡ true → IsReading given old cards → old.stage ≡ Inside job
    → (between : Reading) → between.given ≡ old.given → between.accounts ≡ old.accounts → between.shelf ≡ old.shelf → between.jobs ≡ old.jobs → between.heads ≡ old.heads → between.stray ≡ old.stray → between.stage ≡ Inside job → Closes between new → IsReading given new (cards ++ card ∷ [])
ended_job given old new cards card job few other this at stage between given_same accounts shelf jobs heads strays' stage' closes =
    let front = front_of given cards in
    let A : Stage → Type 0 = λ s. AtStage s front cards old.jobs in
    let inside = subst A stage at.at_stage in
    let done = inside.0 in
    let last = inside.1 in
    let none : old.stray ≡ old.stray + 0 = omega arith in
    let all : new.jobs ≡ jobs_of front 1 (runs cards) =
    closes.jobs ∙ ap (λ (s : Stage). jobs_with s between.jobs) stage' ∙ ap (jobs_with (Inside job)) jobs ∙ all_jobs (Inside job) front cards old.jobs inside in
    let same : jobs_of front 1 (runs (cards ++ card ∷ [])) ≡ jobs_of front 1 (runs cards) =
    ap (jobs_of front 1) (runs-other is_head cards card done last other inside.2)
    ∙ jobs_of-push front 1 done (with_card last card)
    ∙ ap (λ (cs : List (List ℕ)). jobs_of front 1 done ++ job_of front (1 + length done) last.head cs ∷ []) (before-here is_end last.behind card inside.3 this ∙ sym (before-none is_end last.behind inside.3))
    ∙ sym (jobs_of-push front 1 done last)
    ∙ sym (ap (jobs_of front 1) inside.2) in
    let staged : AtStage Outside front (cards ++ card ∷ []) new.jobs =
    (done, with_card last card, runs-other is_head cards card done last other inside.2, list_any-push is_end last.behind card ∙ ap (λ (b : Bool). b || is_end card) inside.3 ∙ this, all ∙ sym same) in
    behind_head given old new cards card done last 0 few other at inside.2 (outside-by true last card inside.3 this)
    (closes.given ∙ given_same) (closes.accounts ∙ accounts) (closes.heads ∙ heads) (closes.stray ∙ strays' ∙ none)
    (shelf_stays Outside old.stage new old.shelf (runs_by is_control_card (before_head cards)) refl closes.stage (ap is_front stage) (closes.shelf ∙ ap (λ (s : Stage). shelf_with s between.shelf) stage' ∙ shelf) at.at_shelf)
    (moved Outside new front (cards ++ card ∷ []) new.jobs refl closes.stage staged)

behind_by : (b : Bool) (run : Run) (rest done : List Run) (last : Run) (n : ℕ) → cond b (run ∷ rest) rest ≡ done ++ last ∷ [] → length run.behind ≤ n
    → ((before : List Run) → rest ≡ before ++ last ∷ [] → length last.behind ≤ n) → length last.behind ≤ suc n
behind_by true run rest [] last n h fits more =
    let same : run ≡ last = cc in
    omega (arith, ap (λ (r : Run). length r.behind) same)
behind_by true run rest (first ∷ done) last n h fits more =
    let others : rest ≡ done ++ last ∷ [] = cc in
    let less : length last.behind ≤ n = more done others in
    omega arith
behind_by false run rest done last n h fits more =
    let less : length last.behind ≤ n = more done h in
    omega arith

no_last : (done : List Run) (last : Run) → [] ≡ done ++ last ∷ [] → ⊥
no_last [] last h = cc
no_last (run ∷ done) last h = cc

-- the cards of the last run are cards
behind-le : (cards : List (List ℕ)) (done : List Run) (last : Run) → runs cards ≡ done ++ last ∷ [] → length last.behind ≤ length cards
behind-le [] done last is = absurd (no_last done last is)
behind-le (card ∷ cards) done last is =
    behind_by (is_head card) (record { head = card; behind = before_head cards }) (runs cards) done last (length cards) is
    (omega (arith, length-before_first is_head cards, prefix_len-le-length (λ (c : List ℕ). not (is_head c)) cards))
    (λ before h. behind-le cards before last h)

-- in a job, every other card is the job's
pub continued : (given : Option (List Account)) (old new : Reading) (cards : List (List ℕ)) (card : List ℕ) (job job' : OpenJob) → length cards < 2 ^ 31 → is_head card ≡ false → is_end card ≡ false → IsReading given old cards → old.stage ≡ Inside job
    → Pushes job job' card → new.given ≡ old.given → new.accounts ≡ old.accounts → new.shelf ≡ old.shelf → new.jobs ≡ old.jobs → new.heads ≡ old.heads → new.stray ≡ old.stray → new.stage ≡ Inside job' → IsReading given new (cards ++ card ∷ [])
continued given old new cards card job job' few other this at stage pushes given_same accounts shelf jobs heads strays' stage' =
    let front = front_of given cards in
    let A : Stage → Type 0 = λ s. AtStage s front cards old.jobs in
    let inside = subst A stage at.at_stage in
    let done = inside.0 in
    let last = inside.1 in
    let none : old.stray ≡ old.stray + 0 = omega arith in
    let fewer : length last.behind < 2 ^ 31 = omega (arith, behind-le cards done last inside.2) in
    let staged : AtStage (Inside job') front (cards ++ card ∷ []) old.jobs =
    (done, with_card last card, runs-other is_head cards card done last other inside.2, list_any-push is_end last.behind card ∙ ap (λ (b : Bool). b || is_end card) inside.3 ∙ this, inside.4, pushed front (length done + 1) last.head last.behind job job' card fewer inside.5 pushes) in
    behind_head given old new cards card done last 0 few other at inside.2 (outside-by false last card inside.3 this) given_same accounts heads (strays' ∙ none)
    (shelf_stays (Inside job') old.stage new old.shelf (runs_by is_control_card (before_head cards)) refl stage' (ap is_front stage) shelf at.at_shelf)
    (moved (Inside job') new front (cards ++ card ∷ []) old.jobs jobs stage' staged)

-- ---- before the first head

-- what is kept while no head has come, but for the libraries
record IsFronted (given : Option (List Account)) (reading : Reading) (cards : List (List ℕ)) : Type 0 where
  given_is : reading.given ≡ is_some given
  no_runs : runs cards ≡ []
  accounts_are : reading.accounts ≡ accounts_from given cards
  written_more : claimed given cards ≤ written cards
  heads_are : reading.heads ≡ count_by is_head cards
  stray_is : reading.stray ≡ written cards - claimed given cards
  no_jobs : reading.jobs ≡ []

at_front : (stage : Stage) (front : batches.Front) (cards : List (List ℕ)) (jobs : List JobView) → is_front stage ≡ true → AtStage stage front cards jobs → (runs cards ≡ []) × (jobs ≡ [])
at_front Front front cards jobs h at = at
at_front (Library library) front cards jobs h at = at
at_front (Inside job) front cards jobs h at = cc
at_front Outside front cards jobs h at = cc

make_front : (stage : Stage) (front : batches.Front) (cards : List (List ℕ)) (jobs : List JobView) → is_front stage ≡ true → (runs cards ≡ []) × (jobs ≡ []) → AtStage stage front cards jobs
make_front Front front cards jobs h at = at
make_front (Library library) front cards jobs h at = at
make_front (Inside job) front cards jobs h at = cc
make_front Outside front cards jobs h at = cc

-- all cards stand before the first head
all_before : (cards : List (List ℕ)) → runs cards ≡ [] → before_head cards ≡ cards
all_before cards none = before-none is_head cards (none_passes is_head cards none)

stray_front : (given : Option (List Account)) (cards : List (List ℕ)) → runs cards ≡ [] → strays given cards ≡ written cards - claimed given cards
stray_front given cards none =
    let nothing : (written cards - claimed given cards) + 0 ≡ written cards - claimed given cards = omega arith in
    ap (λ (cs : List (List ℕ)). (written cs - claimed given cs) + sum_by (λ (run : Run). written (outside run)) (runs cards)) (all_before cards none)
    ∙ ap (λ (rs : List Run). (written cards - claimed given cards) + sum_by (λ (run : Run). written (outside run)) rs) none
    ∙ nothing

from_reading : (given : Option (List Account)) (reading : Reading) (cards : List (List ℕ)) → is_front reading.stage ≡ true → IsReading given reading cards → IsFronted given reading cards
from_reading given reading cards front at =
    let stands = at_front reading.stage (front_of given cards) cards reading.jobs front at.at_stage in
    let before = all_before cards stands.0 in
    record {
      given_is = at.given_is;
      no_runs = stands.0;
      accounts_are = at.accounts_are ∙ ap (accounts_from given) before;
      written_more = omega (arith, at.written_more, ap (claimed given) before, ap written before);
      heads_are = at.heads_are;
      stray_is = at.stray_is ∙ stray_front given cards stands.0;
      no_jobs = stands.1;
    }

shelf_from : (given : Option (List Account)) (reading : Reading) (cards : List (List ℕ)) → is_front reading.stage ≡ true → IsReading given reading cards → AtShelf reading.stage reading.shelf (runs_by is_control_card cards)
shelf_from given reading cards front at =
    let stands = at_front reading.stage (front_of given cards) cards reading.jobs front at.at_stage in
    let P : List (List ℕ) → Type 0 = λ cs. AtShelf reading.stage reading.shelf (runs_by is_control_card cs) in
    subst P (all_before cards stands.0) at.at_shelf

to_reading : (given : Option (List Account)) (reading : Reading) (cards : List (List ℕ)) → is_front reading.stage ≡ true → IsFronted given reading cards → AtShelf reading.stage reading.shelf (runs_by is_control_card cards) → IsReading given reading cards
to_reading given reading cards front at shelf =
    let before = all_before cards at.no_runs in
    let P : List (List ℕ) → Type 0 = λ cs. AtShelf reading.stage reading.shelf (runs_by is_control_card cs) in
    record {
      given_is = at.given_is;
      accounts_are = at.accounts_are ∙ sym (ap (accounts_from given) before);
      written_more = omega (arith, at.written_more, ap (claimed given) before, ap written before);
      heads_are = at.heads_are;
      stray_is = at.stray_is ∙ sym (stray_front given cards at.no_runs);
      at_shelf = subst P (sym before) shelf;
      at_stage = make_front reading.stage (front_of given cards) cards reading.jobs front (at.no_runs, at.no_jobs);
    }

front_counts : (claims some : Bool) (claim claim' written written' stray stray' cards : ℕ) → written' ≡ written + cond some 1 0 → claim' ≡ claim + cond claims (cond some 1 0) 0 → claim ≤ written
    → stray ≡ written - claim → stray ≤ cards → cards < 2 ^ 31 → stray' ≡ cond claims stray (cond some (min (stray + 1) (2 ^ 32 - 1)) stray) → (stray' ≡ written' - claim') × (claim' ≤ written')
front_counts true true claim claim' written written' stray stray' cards w c fits s small few s' = (omega arith, omega arith)
front_counts true false claim claim' written written' stray stray' cards w c fits s small few s' = (omega arith, omega arith)
front_counts false true claim claim' written written' stray stray' cards w c fits s small few s' = (omega arith, omega arith)
front_counts false false claim claim' written written' stray stray' cards w c fits s small few s' = (omega arith, omega arith)

-- one card more, which is claimed or stray
front_more : (given : Option (List Account)) (old new : Reading) (cards : List (List ℕ)) (card : List ℕ) (claims : Bool) → length cards < 2 ^ 31 → is_head card ≡ false → IsFronted given old cards
    → new.given ≡ old.given → new.accounts ≡ accounts_from given (cards ++ card ∷ []) → new.jobs ≡ old.jobs → new.heads ≡ old.heads
    → claimed given (cards ++ card ∷ []) ≡ claimed given cards + cond claims (one card) 0 → new.stray ≡ cond claims old.stray (with_stray old.stray card) → IsFronted given new (cards ++ card ∷ [])
front_more given old new cards card claims few other at given_same accounts jobs heads claim stray =
    let small : old.stray ≤ length cards = omega (arith, at.stray_is, count_by-le-length (λ (c : List ℕ). nat_lt 0 (length c)) cards) in
    let counts = front_counts claims (nat_lt 0 (length card)) (claimed given cards) (claimed given (cards ++ card ∷ [])) (written cards) (written (cards ++ card ∷ [])) old.stray new.stray (length cards)
    (written-push cards card) claim at.written_more at.stray_is small few stray in
    record {
      given_is = given_same ∙ at.given_is;
      no_runs = runs-none is_head cards card other at.no_runs;
      accounts_are = accounts;
      written_more = counts.1;
      heads_are = heads ∙ at.heads_are ∙ sym (heads-other cards card other);
      stray_is = counts.0;
      no_jobs = jobs ∙ at.no_jobs;
    }

-- a card that opens no account
same_accounts : (given : Option (List Account)) (cards : List (List ℕ)) (card : List ℕ) → account_on card ≡ None → (accounts_from given (cards ++ card ∷ []) ≡ accounts_from given cards) × (openings_in given (cards ++ card ∷ []) ≡ openings_in given cards)
same_accounts None cards card none =
    let same : opened (cards ++ card ∷ []) ≡ opened cards = opened-push cards card ∙ ap (with_account (opened cards)) none in
    (same, ap length same)
same_accounts (Some a) cards card none = (refl, refl)

-- a card of a library that is kept
pub in_a_library : (given : Option (List Account)) (old new : Reading) (cards : List (List ℕ)) (card : List ℕ) (library library' : OpenLibrary) → length cards < 2 ^ 31 → is_head card ≡ false → is_control_card card ≡ false → IsReading given old cards → old.stage ≡ Library library
    → Grows library library' card → new.given ≡ old.given → new.accounts ≡ old.accounts → new.shelf ≡ old.shelf → new.jobs ≡ old.jobs → new.heads ≡ old.heads → new.stray ≡ old.stray → new.stage ≡ Library library' → IsReading given new (cards ++ card ∷ [])
in_a_library given old new cards card library library' few other plain at stage grows given_same accounts shelf jobs heads strays' stage' =
    let at_front = from_reading given old cards (ap is_front stage) at in
    let S : Stage → Type 0 = λ s. AtShelf s old.shelf (runs_by is_control_card cards) in
    let o = subst S stage (shelf_from given old cards (ap is_front stage) at) in
    let T : Stage → Type 0 = λ s. AtShelf s new.shelf (runs_by is_control_card (cards ++ card ∷ [])) in
    let U : List Shelved → Type 0 = λ xs. AtShelf (Library library') xs (runs_by is_control_card (cards ++ card ∷ [])) in
    let same = same_accounts given cards card (no_account card plain) in
    let claim : claimed given (cards ++ card ∷ []) ≡ claimed given cards + one card =
    omega (arith, same.1, in_library-cards cards card old.shelf library library' (one card) plain o grows (λ xs. written-push xs card)) in
    to_reading given new (cards ++ card ∷ []) (ap is_front stage')
    (front_more given old new cards card true few other at_front given_same (accounts ∙ at_front.accounts_are ∙ sym same.0) jobs heads claim strays')
    (subst T (sym stage') (subst U (sym shelf) (in_library cards card old.shelf library library' plain o grows)))

-- before the first head and in no library
pub front_alone : (stage : Stage) → is_front stage ≡ true → ((library : OpenLibrary) → stage ≡ Library library → ⊥) → stage ≡ Front
front_alone Front h k = refl
front_alone (Library library) h k = absurd (k library refl)
front_alone (Inside job) h k = cc
front_alone Outside h k = cc

-- a card of no library, and no control card, is stray unless it is blank
pub in_no_library : (given : Option (List Account)) (old new : Reading) (cards : List (List ℕ)) (card : List ℕ) → length cards < 2 ^ 31 → is_head card ≡ false → is_control_card card ≡ false → IsReading given old cards → old.stage ≡ Front
    → new.given ≡ old.given → new.accounts ≡ old.accounts → new.shelf ≡ old.shelf → new.jobs ≡ old.jobs → new.heads ≡ old.heads → new.stray ≡ with_stray old.stray card → new.stage ≡ Front → IsReading given new (cards ++ card ∷ [])
in_no_library given old new cards card few other plain at stage given_same accounts shelf jobs heads strays' stage' =
    let at_front = from_reading given old cards (ap is_front stage) at in
    let S : Stage → Type 0 = λ s. AtShelf s old.shelf (runs_by is_control_card cards) in
    let is = subst S stage (shelf_from given old cards (ap is_front stage) at) in
    let T : Stage → Type 0 = λ s. AtShelf s new.shelf (runs_by is_control_card (cards ++ card ∷ [])) in
    let more = in_none cards card plain is.1 in
    let same = same_accounts given cards card (no_account card plain) in
    let claim : claimed given (cards ++ card ∷ []) ≡ claimed given cards + 0 = omega (arith, same.1, ap shelf_cards more.1) in
    to_reading given new (cards ++ card ∷ []) (ap is_front stage')
    (front_more given old new cards card false few other at_front given_same (accounts ∙ at_front.accounts_are ∙ sym same.0) jobs heads claim strays')
    (subst T (sym stage') (shelf ∙ is.0 ∙ sym (ap (map shelved) more.1), more.0))

one_written : (card : List ℕ) → 0 < length card → one card ≡ 1
one_written card h = let some : nat_lt 0 (length card) ≡ true = grind (arith, nat_tests) in ap (λ (b : Bool). cond b 1 0) some

-- a card that states an account isn't blank
states_some : (card : List ℕ) → IsSome (account_on card) → 0 < length card
states_some [] h = cc
states_some (c ∷ cs) h = omega arith

-- where the accounts are given, none is opened
opens_none : (opens : Bool) (accounts accounts' : ℕ) → accounts' ≡ accounts → accounts' ≡ accounts + cond opens 1 0 → opens ≡ false
opens_none true accounts accounts' same more = absurd (omega arith)
opens_none false accounts accounts' same more = refl

claims_by : (opens : Bool) (card : List ℕ) (n : ℕ) → (opens ≡ true → 0 < length card) → n + cond opens 1 0 ≡ n + cond opens (one card) 0
claims_by true card n some = let one' : one card ≡ 1 = one_written card (some refl) in omega arith
claims_by false card n some = refl

-- a control card that begins no library may open an account, unless the accounts are given
opens_one : (given : Option (List Account)) (accounts accounts' : List Account) (cards : List (List ℕ)) (card : List ℕ) (opens : Bool) → accounts ≡ accounts_from given cards → accounts' ≡ cond (is_some given) accounts (with_account accounts (account_on card))
    → length accounts' ≡ length accounts + cond opens 1 0 → (accounts' ≡ accounts_from given (cards ++ card ∷ [])) × (openings_in given (cards ++ card ∷ []) ≡ openings_in given cards + cond opens 1 0)
opens_one None accounts accounts' cards card opens are is more =
    let grown : accounts' ≡ opened (cards ++ card ∷ []) = is ∙ ap (λ (xs : List Account). with_account xs (account_on card)) are ∙ sym (opened-push cards card) in
    (grown, sym (ap length grown) ∙ more ∙ ap (λ (xs : List Account). length xs + cond opens 1 0) are)
opens_one (Some a) accounts accounts' cards card opens are is more =
    let none : cond opens 1 0 ≡ 0 = ap (λ (b : Bool). cond b 1 0) (opens_none opens (length accounts) (length accounts') (ap length is) more) in
    (is ∙ are, sym (ap (λ (n : ℕ). 0 + n) none))

-- a control card behind the cards before the first head, where the library under way is ended
controlled_by : (given : Option (List Account)) (old between new : Reading) (cards : List (List ℕ)) (card : List ℕ) (name : Option (List ℕ)) → length cards < 2 ^ 31 → is_head card ≡ false → is_control_card card ≡ true → IsFronted given old cards → between.shelf ≡ map shelved (libraries_on (runs_by is_control_card cards))
    → Closes old between → between.jobs ≡ old.jobs → (new.given ≡ between.given) × (new.shelf ≡ between.shelf) × (new.jobs ≡ between.jobs) × (new.heads ≡ between.heads) → Does between new card name → Kind (runs_by is_control_card cards) card name → IsReading given new (cards ++ card ∷ [])
controlled_by given old between new cards card name few other this at shelf closes jobs takes does (begins_one x is begins free) =
    let D : Option (List ℕ) → Type 0 = λ n. Does between new card n in
    let library = subst D is does in
    let same = same_accounts given cards card (library_no_account card x begins) in
    let claim : claimed given (cards ++ card ∷ []) ≡ claimed given cards + one card =
    omega (arith, same.1, begun_cards cards card x this begins free, one_written card (library_written card x begins)) in
    let T : Stage → Type 0 = λ s. AtShelf s new.shelf (runs_by is_control_card (cards ++ card ∷ [])) in
    to_reading given new (cards ++ card ∷ []) (ap is_front library.1)
    (front_more given old new cards card true few other at (takes.0 ∙ closes.given) (library.3 ∙ closes.accounts ∙ at.accounts_are ∙ sym same.0) (takes.2 ∙ jobs) (takes.3 ∙ closes.heads) claim (library.4 ∙ closes.stray))
    (subst T (sym library.1) (begun_now cards card x new.shelf library.0 this begins free (takes.1 ∙ shelf) library.2))
controlled_by given old between new cards card name few other this at shelf closes jobs takes does (begins_none is none) =
    let D : Option (List ℕ) → Type 0 = λ n. Does between new card n in
    let opens = subst D is does in
    let now = none_now cards card this none in
    let accounts = opens_one given between.accounts new.accounts cards card opens.0 (closes.accounts ∙ at.accounts_are)
    (opens.2 ∙ ap (λ (b : Bool). cond b between.accounts (with_account between.accounts (account_on card))) (closes.given ∙ at.given_is)) opens.3 in
    let claim : claimed given (cards ++ card ∷ []) ≡ claimed given cards + cond opens.0 (one card) 0 =
    (let sum : claimed given (cards ++ card ∷ []) ≡ claimed given cards + cond opens.0 1 0 = omega (arith, accounts.1, ap shelf_cards now.1) in sum)
    ∙ claims_by opens.0 card (claimed given cards) (λ h. states_some card (opens.4 h)) in
    let T : Stage → Type 0 = λ s. AtShelf s new.shelf (runs_by is_control_card (cards ++ card ∷ [])) in
    to_reading given new (cards ++ card ∷ []) (ap is_front opens.1)
    (front_more given old new cards card opens.0 few other at (takes.0 ∙ closes.given) accounts.0 (takes.2 ∙ jobs) (takes.3 ∙ closes.heads) claim (opens.5 ∙ ap (λ (n : ℕ). cond opens.0 n (with_stray n card)) closes.stray))
    (subst T (sym opens.1) (takes.1 ∙ shelf ∙ sym (ap (map shelved) now.1), inr now.0))

no_job_closed : (stage : Stage) (jobs : List JobView) → is_front stage ≡ true → jobs_with stage jobs ≡ jobs
no_job_closed Front jobs h = refl
no_job_closed (Library library) jobs h = refl
no_job_closed (Inside job) jobs h = cc
no_job_closed Outside jobs h = cc

-- a control card before the first head ends the library under way, and begins one, or opens an account, or is stray
pub controlled : (given : Option (List Account)) (old between new : Reading) (cards : List (List ℕ)) (card : List ℕ) → length cards < 2 ^ 31 → is_head card ≡ false → is_control_card card ≡ true → IsReading given old cards → is_front old.stage ≡ true → Closes old between → TakesControl between new card
    → IsReading given new (cards ++ card ∷ [])
controlled given old between new cards card few other this at front closes takes =
    let controls = runs_by is_control_card cards in
    let shelf : between.shelf ≡ map shelved (libraries_on controls) = closes.shelf ∙ all_there old.stage old.shelf controls (shelf_from given old cards front at) in
    controlled_by given old between new cards card (free_name between.shelf card) few other this (from_reading given old cards front at) shelf closes (closes.jobs ∙ no_job_closed old.stage old.jobs front)
    (takes.given, takes.shelf, takes.jobs, takes.heads) takes.does (control_kind controls card between.shelf shelf)

does_back : (old new : Reading) (card : List ℕ) (taken : List JobView) (name : Option (List ℕ)) → Does old new card name → Does (put_back taken old) (put_back taken new) card name
does_back old new card taken None does = does
does_back old new card taken (Some x) does = does

does_begin : (old new : Reading) (card x : List ℕ) (library : OpenLibrary) (name : Option (List ℕ)) → name ≡ Some x → new.stage ≡ Library library → IsOpenLibrary x [] library → new.accounts ≡ old.accounts → new.stray ≡ old.stray → Does old new card name
does_begin old new card x library name is stage stands accounts stray =
    let D : Option (List ℕ) → Type 0 = λ n. Does old new card n in
    subst D (sym is) (library, stage, stands, accounts, stray)

-- a control card begins a library that is kept
pub takes_begin : (old new : Reading) (card x : List ℕ) (library : OpenLibrary) → free_name old.shelf card ≡ Some x → new.stage ≡ Library library → IsOpenLibrary x [] library → new.given ≡ old.given → new.accounts ≡ old.accounts → new.shelf ≡ old.shelf → new.jobs ≡ old.jobs → new.heads ≡ old.heads
    → new.stray ≡ old.stray → TakesControl old new card
takes_begin old new card x library is stage stands given accounts shelf jobs heads stray = record {
  given = given;
  shelf = shelf;
  jobs = jobs;
  heads = heads;
  does = does_begin old new card x library (free_name old.shelf card) is stage stands accounts stray;
}

-- whatever jobs were taken before
pub takes_back : (old new : Reading) (card : List ℕ) (taken : List JobView) → TakesControl old new card → TakesControl (put_back taken old) (put_back taken new) card
takes_back old new card taken takes = record {
  given = takes.given;
  shelf = takes.shelf;
  jobs = ap (λ (js : List JobView). taken ++ js) takes.jobs;
  heads = takes.heads;
  does = does_back old new card taken (free_name old.shelf card) takes.does;
}

-- ---- the end

abbrev pub whole_batch : List Account → List JobView → ℕ → Batch
whole_batch accounts jobs stray = record { accounts = accounts; jobs = jobs; stray = stray }

-- a reading is the batch of its cards
pub finished : (given : Option (List Account)) (reading : Reading) (closing : Reading) (cards : List (List ℕ)) (batch : Batch) → IsReading given reading cards → Closes reading closing
    → batch ≡ record { accounts = closing.accounts; jobs = closing.jobs; stray = closing.stray } → batch ≡ batch_of given cards
finished given reading closing cards batch at closes is =
    let accounts : closing.accounts ≡ accounts_of given cards = closes.accounts ∙ at.accounts_are in
    let jobs : closing.jobs ≡ jobs_of (front_of given cards) 1 (runs cards) = closes.jobs ∙ all_jobs reading.stage (front_of given cards) cards reading.jobs at.at_stage in
    let stray : closing.stray ≡ strays given cards = closes.stray ∙ at.stray_is in
    is
    ∙ ap (λ (xs : List Account). whole_batch xs closing.jobs closing.stray) accounts
    ∙ ap (λ (js : List JobView). whole_batch (accounts_of given cards) js closing.stray) jobs
    ∙ ap (λ (n : ℕ). whole_batch (accounts_of given cards) (jobs_of (front_of given cards) 1 (runs cards)) n) stray

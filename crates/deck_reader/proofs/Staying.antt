-- What a part of an input tells of the whole.
use Rattle.std.proofs.Common.{◌≡◌, ◌⊎◌, ℕ, ◌+◌, ◌<◌, Bool, true, false, cond, ◌||◌, List, [], ◌∷◌, ◌++◌, length, map, Option, Some, None, IfNone, unwrap_or, refl, sym, ap, ◌∙◌, arith, inl, inr, append_assoc, append-nil}
use Rattle.std.specs.List.{list_any}
use Rattle.std.proofs.lemmas.List.{length-append, map-append}
use Rattle.deck_reader.specs.declared.batch.Account.{Account}
use Rattle.deck_reader.specs.declared.reader.Reader.{Reader}
use Rattle.deck_reader.specs.declared.open_library.OpenLibrary.{OpenLibrary}
use Rattle.deck_reader.specs.declared.reading.Stage.{Stage}
use Rattle.deck_reader.specs.declared.reading.Stage.TheVariants.{Front, Library, Inside, Outside}
use Rattle.deck_reader.specs.JobView.{JobView}
use Rattle.deck_reader.specs.Cards.{cleaned, ended, under_way, unless_empty, cards}
use Rattle.deck_reader.specs.Forms.{is_head, is_end, is_control_card}
use Rattle.deck_reader.specs.Batch.{Run, runs_by, runs, body, before_head, is_ended, over, shelved, libraries_in, shelf_of, job_of, jobs_of, accounts_from, accounts_of, front_from, front_of, ended_jobs_of, ended_jobs, known_accounts, known_libraries}
use Rattle.deck_reader.specs.Batch as batches
use Rattle.deck_reader.specs.BatchLaws.{JobsStay, AccountsStay, LibrariesStay}
use Rattle.deck_reader.specs.LibraryView.{Shelved}
use Rattle.deck_reader.specs.Fed.{StandsFor}
use Rattle.deck_reader.specs.Reading.{AtStage, is_front}
use Rattle.deck_reader.proofs.Cuts.{ended-prefix}
use Rattle.deck_reader.proofs.Arrivals.{from_shelf}
use Rattle.deck_reader.proofs.Firsts.{list_any-push, before-found}
use Rattle.deck_reader.proofs.Runs.{with_card, none_passes, no_run, some_passes, runs-passing, runs-other, runs-none, jobs_of-push}

-- ---- the runs that are over

abbrev if_ended : Run → List Run
if_ended run = cond (is_ended run) (run ∷ []) []

over-more : (run : Run) (runs : List Run) → 0 < length runs → over (run ∷ runs) ≡ run ∷ over runs
over-more run [] h = absurd (omega arith)
over-more run (next ∷ runs) h = refl

over-last : (done : List Run) (last : Run) → over (done ++ last ∷ []) ≡ done ++ if_ended last
over-last [] last = refl
over-last (run ∷ done) last =
    over-more run (done ++ last ∷ []) (omega (arith, length-append done (last ∷ [])))
    ∙ ap (λ (rs : List Run). run ∷ rs) (over-last done last)

last_over_by : (b : Bool) (run : Run) → (rest : List Run) × (run ∷ [] ≡ cond b (run ∷ []) [] ++ rest)
last_over_by true run = ([], refl)
last_over_by false run = (run ∷ [], refl)

-- they are the first runs
over_first : (runs : List Run) → (rest : List Run) × (runs ≡ over runs ++ rest)
over_first [] = ([], refl)
over_first (run ∷ []) = last_over_by (is_ended run) run
over_first (run ∷ next ∷ runs) = let more = over_first (next ∷ runs) in (more.0, ap (λ (rs : List Run). run ∷ rs) more.1)

last_run : (runs : List Run) → (runs ≡ []) ⊎ ((done : List Run) × (last : Run) × (runs ≡ done ++ last ∷ []))
last_run [] = inl refl
last_run (run ∷ runs) = elim (last_run runs) [
  | inl h ↦ inr ([], run, ap (λ (rs : List Run). run ∷ rs) h)
  | inr h ↦ inr (run ∷ h.0, h.1, ap (λ (rs : List Run). run ∷ rs) h.2)
]

-- ---- the jobs of the first runs are the first jobs

jobs_first : (front : batches.Front) (number : ℕ) (xs ys : List Run) → (rest : List JobView) × (jobs_of front number (xs ++ ys) ≡ jobs_of front number xs ++ rest)
jobs_first front number [] ys = (jobs_of front number ys, refl)
jobs_first front number (x ∷ xs) ys =
    let more = jobs_first front (number + 1) xs ys in
    (more.0, ap (λ (js : List JobView). job_of front number x.head (body x) ∷ js) more.1)

-- the jobs of runs that are some first ones of others
first_of : (front : batches.Front) (all some rest : List Run) → all ≡ some ++ rest → (more : List JobView) × (jobs_of front 1 all ≡ jobs_of front 1 some ++ more)
first_of front all some rest is = let more = jobs_first front 1 some rest in (more.0, ap (jobs_of front 1) is ∙ more.1)

same_jobs : {xs ys : List JobView} → xs ≡ ys → (more : List JobView) × (xs ≡ ys ++ more)
same_jobs {xs} {ys} h = ([], h ∙ sym (append-nil ys))

-- the last job, with a card more in its run
last_by : (b : Bool) (front : batches.Front) (done : List Run) (last : Run) (card : List ℕ) → is_ended last ≡ b
    → (more : List JobView) × (jobs_of front 1 (done ++ if_ended (with_card last card)) ≡ jobs_of front 1 (done ++ cond b (last ∷ []) []) ++ more)
last_by true front done last card is =
    let still : is_ended (with_card last card) ≡ true = list_any-push is_end last.behind card ∙ ap (λ (b : Bool). b || is_end card) is in
    let same : body (with_card last card) ≡ body last = before-found is_end last.behind card is in
    same_jobs
    (ap (λ (b : Bool). jobs_of front 1 (done ++ cond b (with_card last card ∷ []) [])) still
    ∙ jobs_of-push front 1 done (with_card last card)
    ∙ ap (λ (cs : List (List ℕ)). jobs_of front 1 done ++ job_of front (1 + length done) last.head cs ∷ []) same
    ∙ sym (jobs_of-push front 1 done last))
last_by false front done last card is =
    let more = jobs_first front 1 done (if_ended (with_card last card)) in
    (more.0, more.1 ∙ ap (λ (rs : List Run). jobs_of front 1 rs ++ more.0) (sym (append-nil done)))

-- the jobs that are over, when one card more comes
over_grows : (head : Bool) (front : batches.Front) (cards : List (List ℕ)) (card : List ℕ) → is_head card ≡ head
    → (more : List JobView) × (jobs_of front 1 (over (runs (cards ++ card ∷ []))) ≡ jobs_of front 1 (over (runs cards)) ++ more)
over_grows true front cards card is =
    let before = over_first (runs cards) in
    let new : Run = record { head = card; behind = [] } in
    first_of front (over (runs (cards ++ card ∷ []))) (over (runs cards)) (before.0 ++ if_ended new)
    (ap over (runs-passing is_head cards card is) ∙ over-last (runs cards) new ∙ ap (λ (rs : List Run). rs ++ if_ended new) before.1 ∙ append_assoc (over (runs cards)) before.0 (if_ended new))
over_grows false front cards card is = elim (last_run (runs cards)) [
  | inl none ↦ same_jobs (ap (λ (rs : List Run). jobs_of front 1 (over rs)) (runs-none is_head cards card is none ∙ sym none))
  | inr at ↦
      let step = last_by (is_ended at.1) front at.0 at.1 card refl in (
        step.0,
        ap (λ (rs : List Run). jobs_of front 1 (over rs)) (runs-other is_head cards card at.0 at.1 is at.2)
            ∙ ap (jobs_of front 1) (over-last at.0 (with_card at.1 card))
            ∙ step.1
            ∙ ap (λ (rs : List Run). jobs_of front 1 rs ++ step.0) (sym (ap over at.2 ∙ over-last at.0 at.1)),
      )
]

ended_grow_by : (given : Option (List Account)) (b : Bool) (cards : List (List ℕ)) (card : List ℕ) → list_any is_head cards ≡ b → (more : List JobView) × (ended_jobs_of given (cards ++ card ∷ []) ≡ ended_jobs_of given cards ++ more)
ended_grow_by given true cards card is =
    let grown = over_grows (is_head card) (front_from given (before_head cards)) cards card refl in
    (grown.0, ap (λ (cs : List (List ℕ)). jobs_of (front_from given cs) 1 (over (runs (cards ++ card ∷ [])))) (before-found is_head cards card is) ∙ grown.1)
ended_grow_by given false cards card is =
    let none : ended_jobs_of given cards ≡ [] = ap (λ (rs : List Run). jobs_of (front_from given (before_head cards)) 1 (over rs)) (no_run is_head cards is) in
    (ended_jobs_of given (cards ++ card ∷ []), ap (λ (js : List JobView). js ++ ended_jobs_of given (cards ++ card ∷ [])) (sym none))

ended_grow : (given : Option (List Account)) (cards more : List (List ℕ)) → (rest : List JobView) × (ended_jobs_of given (cards ++ more) ≡ ended_jobs_of given cards ++ rest)
ended_grow given cards [] = ([], ap (ended_jobs_of given) (append-nil cards) ∙ sym (append-nil (ended_jobs_of given cards)))
ended_grow given cards (card ∷ more) =
    let one = ended_grow_by given (list_any is_head cards) cards card refl in
    let others = ended_grow given (cards ++ card ∷ []) more in
    (one.0 ++ others.0, ap (ended_jobs_of given) (sym (append_assoc cards (card ∷ []) more)) ∙ others.1 ∙ ap (λ (js : List JobView). js ++ others.0) one.1 ∙ append_assoc (ended_jobs_of given cards) one.0 others.0)

-- the cards of a part of an input are the first cards of the whole
cards_more : (input more : List ℕ) → (rest : List (List ℕ)) × (cards (input ++ more) ≡ map cleaned (ended input) ++ rest)
cards_more input more =
    let prefix = ended-prefix input more in
    let last = unless_empty (under_way (input ++ more)) in (
      map cleaned prefix.0 ++ map cleaned last,
      map-append cleaned (ended (input ++ more)) last
          ∙ ap (λ (ps : List (List ℕ)). map cleaned ps ++ map cleaned last) prefix.1
          ∙ ap (λ (cs : List (List ℕ)). cs ++ map cleaned last) (map-append cleaned (ended input) prefix.0)
          ∙ append_assoc (map cleaned (ended input)) (map cleaned prefix.0) (map cleaned last),
    )

pub jobs_stay : JobsStay
jobs_stay given input more =
    let known = map cleaned (ended input) in
    let whole = cards_more input more in
    let all = cards (input ++ more) in
    let over_part = over_first (runs all) in
    let ended_part = first_of (front_from given (before_head all)) (runs all) (over (runs all)) over_part.0 over_part.1 in
    let grown = ended_grow given known whole.0 in
    (grown.0 ++ ended_part.0, ended_part.1 ∙ ap (λ (js : List JobView). js ++ ended_part.0) (ap (ended_jobs_of given) whole.1 ∙ grown.1) ∙ append_assoc (ended_jobs_of given known) grown.0 ended_part.0)

front_stays : (known more : List (List ℕ)) → list_any is_head known ≡ true → before_head (known ++ more) ≡ before_head known
front_stays known [] is = ap before_head (append-nil known)
front_stays known (card ∷ more) is =
    ap before_head (sym (append_assoc known (card ∷ []) more))
    ∙ front_stays (known ++ card ∷ []) more (list_any-push is_head known card ∙ ap (λ (b : Bool). b || is_head card) is)
    ∙ before-found is_head known card is

known_by : {A : Type 0} (b : Bool) (known is : A) → cond b (Some known) None ≡ Some is → (b ≡ true) × (known ≡ is)
known_by true known is h = (refl, ap (λ o. unwrap_or o known) h)
known_by false known is h = cc

pub accounts_stay : AccountsStay
accounts_stay given input more accounts is =
    let known = map cleaned (ended input) in
    let whole = cards_more input more in
    let at = known_by (list_any is_head known) (accounts_from given (before_head known)) accounts is in
    ap (λ (cs : List (List ℕ)). accounts_from given (before_head cs)) whole.1 ∙ ap (accounts_from given) (front_stays known whole.0 at.0) ∙ at.1

pub libraries_stay : LibrariesStay
libraries_stay input more shelf is =
    let known = map cleaned (ended input) in
    let whole = cards_more input more in
    let at = known_by (list_any is_head known) (shelf_of known) shelf is in
    let kept : List (List ℕ) → List Shelved = λ front. map shelved (libraries_in front) in
    ap shelf_of whole.1 ∙ ap kept (front_stays known whole.0 at.0) ∙ at.1

-- ---- what a reading keeps

if_not_ended : (run : Run) → is_ended run ≡ false → if_ended run ≡ []
if_not_ended run h = ap (λ (b : Bool). cond b (run ∷ []) []) h

if_so_ended : (run : Run) → is_ended run ≡ true → if_ended run ≡ run ∷ []
if_so_ended run h = ap (λ (b : Bool). cond b (run ∷ []) []) h

-- the jobs by now are those that the cards have ended
pub jobs_ended : (given : Option (List Account)) (stage : Stage) (cards : List (List ℕ)) (jobs : List JobView) → AtStage stage (front_of given cards) cards jobs → jobs ≡ ended_jobs_of given cards
jobs_ended given Front cards jobs at = at.1 ∙ sym (ap (λ (rs : List Run). jobs_of (front_of given cards) 1 (over rs)) at.0)
jobs_ended given (Library library) cards jobs at = at.1 ∙ sym (ap (λ (rs : List Run). jobs_of (front_of given cards) 1 (over rs)) at.0)
jobs_ended given (Inside job) cards jobs at =
    at.4
    ∙ ap (jobs_of (front_of given cards) 1) (sym (ap over at.2 ∙ over-last at.0 at.1 ∙ ap (λ (rs : List Run). at.0 ++ rs) (if_not_ended at.1 at.3) ∙ append-nil at.0))
jobs_ended given Outside cards jobs at =
    at.4
    ∙ ap (jobs_of (front_of given cards) 1) (at.2 ∙ sym (ap over at.2 ∙ over-last at.0 at.1 ∙ ap (λ (rs : List Run). at.0 ++ rs) (if_so_ended at.1 at.3)))

some_runs : (runs done : List Run) (last : Run) → runs ≡ done ++ last ∷ [] → 0 < length runs
some_runs runs done last is = omega (arith, ap length is, length-append done (last ∷ []))

no_head_by : (stage : Stage) (front : batches.Front) (cards : List (List ℕ)) (jobs : List JobView) → is_front stage ≡ true → AtStage stage front cards jobs → list_any is_head cards ≡ false
no_head_by Front front cards jobs is at = none_passes is_head cards at.0
no_head_by (Library library) front cards jobs is at = none_passes is_head cards at.0
no_head_by (Inside job) front cards jobs is at = cc
no_head_by Outside front cards jobs is at = cc

some_head_by : (stage : Stage) (front : batches.Front) (cards : List (List ℕ)) (jobs : List JobView) → is_front stage ≡ false → AtStage stage front cards jobs → list_any is_head cards ≡ true
some_head_by Front front cards jobs is at = cc
some_head_by (Library library) front cards jobs is at = cc
some_head_by (Inside job) front cards jobs is at = some_passes is_head cards (some_runs (runs cards) at.0 at.1 at.2)
some_head_by Outside front cards jobs is at = some_passes is_head cards (some_runs (runs cards) at.0 at.1 at.2)

-- the jobs taken, and those that a reader keeps, are those that the cards have ended
pub taken_and_kept : (given : Option (List Account)) (reader : Reader) (taken : List JobView) (input : List ℕ) → StandsFor given reader taken input → taken ++ reader.reading.jobs ≡ ended_jobs given input
taken_and_kept given reader taken input stands =
    jobs_ended given reader.reading.stage (map cleaned (ended input)) (taken ++ reader.reading.jobs) stands.has_read.read.at_stage

pub front_is : (stage : Stage) → (stage ≡ Front) ⊎ ((library : OpenLibrary) × (stage ≡ Library library)) → is_front stage ≡ true
front_is stage h = elim h [ inl e ↦ ap is_front e | inr e ↦ ap is_front e.1 ]

pub not_front : (stage : Stage) → (stage ≡ Front → ⊥) → ((library : OpenLibrary) → stage ≡ Library library → ⊥) → is_front stage ≡ false
not_front Front h k = absurd (h refl)
not_front (Library library) h k = absurd (k library refl)
not_front (Inside job) h k = refl
not_front Outside h k = refl

-- before the first head no accounts are known, nor libraries
pub none_known : (given : Option (List Account)) (reader : Reader) (taken : List JobView) (input : List ℕ) → is_front reader.reading.stage ≡ true → StandsFor given reader taken input → (known_accounts given input ≡ None) × (known_libraries input ≡ None)
none_known given reader taken input is stands =
    let cards = map cleaned (ended input) in
    let none = no_head_by reader.reading.stage (front_of given cards) cards (taken ++ reader.reading.jobs) is stands.has_read.read.at_stage in (
      ap (λ (b : Bool). cond b (Some (accounts_of given cards)) None) none,
      ap (λ (b : Bool). cond b (Some (shelf_of cards)) None) none,
    )

-- behind it they are
pub some_known : (given : Option (List Account)) (reader : Reader) (taken : List JobView) (input : List ℕ) → is_front reader.reading.stage ≡ false → StandsFor given reader taken input
    → (known_accounts given input ≡ Some reader.reading.accounts) × (known_libraries input ≡ Some reader.reading.shelf)
some_known given reader taken input is stands =
    let cards = map cleaned (ended input) in
    let read = stands.has_read.read in
    let some = some_head_by reader.reading.stage (front_of given cards) cards (taken ++ reader.reading.jobs) is read.at_stage in (
      ap (λ (b : Bool). cond b (Some (accounts_of given cards)) None) some ∙ ap Some (sym read.accounts_are),
      ap (λ (b : Bool). cond b (Some (shelf_of cards)) None) some
          ∙ ap Some (sym (from_shelf reader.reading.stage reader.reading.shelf (runs_by is_control_card (before_head cards)) is read.at_shelf)),
    )

-- what follows where nothing is there
pub if_none : {A P Q : Type 0} (r : Option A) → IfNone r P → (P → Q) → IfNone r Q
if_none None holds then = then holds
if_none (Some x) holds then = tt

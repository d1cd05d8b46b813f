-- The runs of a batch's cards, when one card more comes.
use Rattle.std.proofs.Common.{◌≡◌, ℕ, suc, ◌+◌, ◌<◌, ◌≤◌, Bool, true, false, cond, not, ◌||◌, List, [], ◌∷◌, ◌++◌, length, refl, sym, ap, ◌∙◌, arith, sum_by, count_by, nat_lt}
use Rattle.std.specs.List.{list_any, position_or_len, before_first, after_first}
use Rattle.std.proofs.lemmas.List.{length-take-le, length-drop, length-append}
use Rattle.std.proofs.lemmas.List.Sums.{prefix_len-le-length, sum_by-cons, count_by-le-length}
use Rattle.deck_reader.specs.JobView.{JobView}
use Rattle.deck_reader.specs.Forms.{is_head, is_end}
use Rattle.deck_reader.specs.Batch.{Run, Front, runs_by, runs, body, outside, written, before_head, job_of, jobs_of}
use Rattle.deck_reader.proofs.Firsts.{before-none, before-found, before-here, before-past}

pub length-before_first : {X : Type 0} (p : X → Bool) (xs : List X) → length (before_first p xs) ≡ position_or_len p xs
length-before_first p xs = length-take-le (position_or_len p xs) xs (prefix_len-le-length (λ x. not (p x)) xs)

outside-le : (run : Run) → written (outside run) ≤ length run.behind
outside-le run =
    let after = after_first is_end run.behind in
    omega (arith, count_by-le-length (λ c. nat_lt 0 (length c)) after, length-drop (position_or_len is_end run.behind + 1) run.behind)

run_more : (b : Bool) (card : List ℕ) (cards : List (List ℕ))
    → sum_by (λ run. written (outside run)) (runs cards) + position_or_len is_head cards ≤ length cards
    → sum_by (λ run. written (outside run)) (cond b (record { head = card; behind = before_head cards } ∷ runs cards) (runs cards)) + cond (not b) (1 + position_or_len is_head cards) 0 ≤ suc (length cards)
run_more true card cards h =
    let run : Run = record { head = card; behind = before_head cards } in
    omega (arith, h, sum_by-cons (λ run. written (outside run)) run (runs cards), outside-le run, length-before_first is_head cards)
run_more false card cards h = omega (arith, h)

-- the cards outside of the jobs are some of those behind the first head
pub outside_all-le : (cards : List (List ℕ)) → sum_by (λ run. written (outside run)) (runs cards) + position_or_len is_head cards ≤ length cards
outside_all-le [] = omega arith
outside_all-le (card ∷ cards) = run_more (is_head card) card cards (outside_all-le cards)

-- a run with a card more
abbrev pub with_card : Run → List ℕ → Run
with_card run card = record { head = run.head; behind = run.behind ++ card ∷ [] }

-- the last of the runs with a card more
abbrev onto_last : List ℕ → List Run → List Run
onto_last card [] = []
onto_last card (run ∷ []) = with_card run card ∷ []
onto_last card (run ∷ next ∷ runs) = run ∷ onto_last card (next ∷ runs)

onto_last-more : (card : List ℕ) (run : Run) (runs : List Run) → 0 < length runs → onto_last card (run ∷ runs) ≡ run ∷ onto_last card runs
onto_last-more card run [] h = absurd (omega arith)
onto_last-more card run (next ∷ runs) h = refl

onto_last-push : (card : List ℕ) (done : List Run) (last : Run) → onto_last card (done ++ last ∷ []) ≡ done ++ with_card last card ∷ []
onto_last-push card [] last = refl
onto_last-push card (run ∷ done) last =
    onto_last-more card run (done ++ last ∷ []) (omega (arith, length-append done (last ∷ [])))
    ∙ ap (λ (rs : List Run). run ∷ rs) (onto_last-push card done last)

module _ (p : List ℕ → Bool) where
  -- where no card passes there is no run
  no_run_by : (b : Bool) (run : Run) (rest : List Run) → cond b (run ∷ rest) rest ≡ [] → (b ≡ false) × (rest ≡ [])
  no_run_by true run rest h = cc
  no_run_by false run rest h = (refl, h)

  pub none_passes : (cards : List (List ℕ)) → runs_by p cards ≡ [] → list_any p cards ≡ false
  none_passes [] h = refl
  none_passes (card ∷ cards) h =
      let none = no_run_by (p card) (record { head = card; behind = before_first p cards }) (runs_by p cards) h in
      ap (λ (b : Bool). b || list_any p cards) none.0 ∙ none_passes cards none.1

  some_run_by : (b : Bool) (run : Run) (rest : List Run) (any : Bool) → (b || any) ≡ true → (any ≡ true → 0 < length rest) → 0 < length (cond b (run ∷ rest) rest)
  some_run_by true run rest any h more = omega arith
  some_run_by false run rest any h more = more h

  some_run : (cards : List (List ℕ)) → list_any p cards ≡ true → 0 < length (runs_by p cards)
  some_run [] h = cc
  some_run (card ∷ cards) h = some_run_by (p card) (record { head = card; behind = before_first p cards }) (runs_by p cards) (list_any p cards) h (some_run cards)

  neither_of : (a b : Bool) → (a || b) ≡ false → (a ≡ false) × (b ≡ false)
  neither_of true b h = cc
  neither_of false b h = (refl, h)

  pub no_run : (cards : List (List ℕ)) → list_any p cards ≡ false → runs_by p cards ≡ []
  no_run [] h = refl
  no_run (card ∷ cards) h =
      let neither = neither_of (p card) (list_any p cards) h in
      ap (λ (b : Bool). cond b (record { head = card; behind = before_first p cards } ∷ runs_by p cards) (runs_by p cards)) neither.0 ∙ no_run cards neither.1

  any_by : (b : Bool) (cards : List (List ℕ)) → list_any p cards ≡ b → 0 < length (runs_by p cards) → list_any p cards ≡ true
  any_by true cards is h = is
  any_by false cards is h = absurd (let none : length (runs_by p cards) ≡ 0 = ap length (no_run cards is) in omega arith)

  -- where there is a run a card passes
  pub some_passes : (cards : List (List ℕ)) → 0 < length (runs_by p cards) → list_any p cards ≡ true
  some_passes cards h = any_by (list_any p cards) cards refl h

  before_by : (b : Bool) (cards : List (List ℕ)) (head : List ℕ) → list_any p cards ≡ b → p head ≡ true → before_first p (cards ++ head ∷ []) ≡ before_first p cards
  before_by true cards head is h = before-found p cards head is
  before_by false cards head is h = before-here p cards head is h ∙ sym (before-none p cards is)

  -- a card more that passes leaves the cards before the first that does, where there is one
  pub before-passing : (cards : List (List ℕ)) (head : List ℕ) → p head ≡ true → before_first p (cards ++ head ∷ []) ≡ before_first p cards
  before-passing cards head h = before_by (list_any p cards) cards head refl h

  runs_passing_by : (b : Bool) (run run' new : Run) (rest rest' : List Run) → run' ≡ run → rest' ≡ rest ++ new ∷ [] → cond b (run' ∷ rest') rest' ≡ cond b (run ∷ rest) rest ++ new ∷ []
  runs_passing_by true run run' new rest rest' h k = ap (λ (r : Run). r ∷ rest') h ∙ ap (λ (rs : List Run). run ∷ rs) k
  runs_passing_by false run run' new rest rest' h k = k

  -- a card more that passes begins a run
  pub runs-passing : (cards : List (List ℕ)) (head : List ℕ) → p head ≡ true → runs_by p (cards ++ head ∷ []) ≡ runs_by p cards ++ record { head = head; behind = [] } ∷ []
  runs-passing [] head h = ap (λ (b : Bool). cond b (record { head = head; behind = [] } ∷ []) []) h
  runs-passing (card ∷ cards) head h =
      runs_passing_by (p card) (record { head = card; behind = before_first p cards }) (record { head = card; behind = before_first p (cards ++ head ∷ []) }) (record { head = head; behind = [] }) (runs_by p cards) (runs_by p (cards ++ head ∷ []))
      (ap (λ (xs : List (List ℕ)). record { head = card; behind = xs }) (before-passing cards head h)) (runs-passing cards head h)

  first_run_by : (any : Bool) (head card : List ℕ) (cards : List (List ℕ)) → list_any p cards ≡ any → p card ≡ false → runs_by p (cards ++ card ∷ []) ≡ onto_last card (runs_by p cards)
      → record { head = head; behind = before_first p (cards ++ card ∷ []) } ∷ runs_by p (cards ++ card ∷ []) ≡ onto_last card (record { head = head; behind = before_first p cards } ∷ runs_by p cards)
  first_run_by true head card cards is other rest =
      ap (λ (xs : List (List ℕ)). record { head = head; behind = xs } ∷ runs_by p (cards ++ card ∷ [])) (before-found p cards card is)
      ∙ ap (λ (rs : List Run). record { head = head; behind = before_first p cards } ∷ rs) rest
      ∙ sym (onto_last-more card (record { head = head; behind = before_first p cards }) (runs_by p cards) (some_run cards is))
  first_run_by false head card cards is other rest =
      let none : runs_by p cards ≡ [] = no_run cards is in
      ap (λ (xs : List (List ℕ)). record { head = head; behind = xs } ∷ runs_by p (cards ++ card ∷ [])) (before-past p cards card is other ∙ ap (λ (xs : List (List ℕ)). xs ++ card ∷ []) (sym (before-none p cards is)))
      ∙ ap (λ (rs : List Run). record { head = head; behind = before_first p cards ++ card ∷ [] } ∷ rs) (rest ∙ ap (onto_last card) none)
      ∙ sym (ap (λ (rs : List Run). onto_last card (record { head = head; behind = before_first p cards } ∷ rs)) none)

  runs_onto_by : (b : Bool) (head card : List ℕ) (cards : List (List ℕ)) → p card ≡ false → runs_by p (cards ++ card ∷ []) ≡ onto_last card (runs_by p cards)
      → cond b (record { head = head; behind = before_first p (cards ++ card ∷ []) } ∷ runs_by p (cards ++ card ∷ [])) (runs_by p (cards ++ card ∷ []))
      ≡ onto_last card (cond b (record { head = head; behind = before_first p cards } ∷ runs_by p cards) (runs_by p cards))
  runs_onto_by true head card cards other rest = first_run_by (list_any p cards) head card cards refl other rest
  runs_onto_by false head card cards other rest = rest

  runs_onto : (cards : List (List ℕ)) (card : List ℕ) → p card ≡ false → runs_by p (cards ++ card ∷ []) ≡ onto_last card (runs_by p cards)
  runs_onto [] card other = ap (λ (b : Bool). cond b (record { head = card; behind = [] } ∷ []) []) other
  runs_onto (head ∷ cards) card other = runs_onto_by (p head) head card cards other (runs_onto cards card other)

  -- any other card more stands behind the last that passes
  pub runs-other : (cards : List (List ℕ)) (card : List ℕ) (done : List Run) (last : Run) → p card ≡ false → runs_by p cards ≡ done ++ last ∷ [] → runs_by p (cards ++ card ∷ []) ≡ done ++ with_card last card ∷ []
  runs-other cards card done last other is = runs_onto cards card other ∙ ap (onto_last card) is ∙ onto_last-push card done last

  -- where there is no run, any other card more begins none
  pub runs-none : (cards : List (List ℕ)) (card : List ℕ) → p card ≡ false → runs_by p cards ≡ [] → runs_by p (cards ++ card ∷ []) ≡ []
  runs-none cards card other is = runs_onto cards card other ∙ ap (onto_last card) is

  count_run_by : (b : Bool) (run : Run) (rest : List Run) (n : ℕ) → length rest ≡ n → length (cond b (run ∷ rest) rest) ≡ cond b 1 0 + n
  count_run_by true run rest n h = omega arith
  count_run_by false run rest n h = omega arith

  -- there is a run for each card that passes
  pub length-runs : (cards : List (List ℕ)) → length (runs_by p cards) ≡ count_by p cards
  length-runs [] = refl
  length-runs (card ∷ cards) =
      count_run_by (p card) (record { head = card; behind = before_first p cards }) (runs_by p cards) (count_by p cards) (length-runs cards)
      ∙ sym (sum_by-cons (λ (c : List ℕ). cond (p c) 1 0) card cards)

-- the job of a run more
pub jobs_of-push : (front : Front) (number : ℕ) (done : List Run) (run : Run) → jobs_of front number (done ++ run ∷ []) ≡ jobs_of front number done ++ job_of front (number + length done) run.head (body run) ∷ []
jobs_of-push front number [] run = let same : number ≡ number + 0 = omega arith in ap (λ (n : ℕ). job_of front n run.head (body run) ∷ []) same
jobs_of-push front number (first ∷ done) run =
    let same : number + 1 + length done ≡ number + suc (length done) = omega arith in
    ap (λ (js : List JobView). job_of front number first.head (body first) ∷ js)
    (jobs_of-push front (number + 1) done run
    ∙ ap (λ (n : ℕ). jobs_of front (number + 1) done ++ job_of front n run.head (body run) ∷ []) same)

-- A run of lines as a batch of its own, and the lines before the first job.
use Rattle.std.proofs.Common.{◌≡◌, ℕ, ◌+◌, ◌-◌, ◌≤◌, ◌||◌, Bool, true, false, cond, nat_lt, List, [], ◌∷◌, length, map, Some, refl, ap, ◌∙◌, arith, count_by, sum_by}
use Rattle.std.specs.List.{before_first, list_any}
use Rattle.std.proofs.lemmas.Bool.Decides.{nat_tests}
use Rattle.std.proofs.lemmas.List.Sums.{sum_by-cons}
use Rattle.deck_reader.specs.declared.batch.Batch.{Batch}
use Rattle.deck_reader.specs.Batch.{Run, front_from, batch_of, batch_with, before_head, claimed, is_over, jobs_of, outside, passes, runs, too_large, written}
use Rattle.deck_reader.specs.Cards.{cards, cleaned, ended}
use Rattle.deck_reader.specs.Forms.{is_head}
use Rattle.deck_reader.proofs.Runs.{length-runs, no_run}
use Rattle.night_shares.specs.Batches.{lone_batch, run_strays}
use Rattle.night_shares.specs.Lines.{begins_job, cleaned_run, run_lines, text_of_lines}
use Rattle.night_shares.specs.Running.{IsRun}
use Rattle.night_shares.proofs.LineRuns.{before_all, before_at}
use Rattle.night_shares.proofs.Texts.{cards_of_lines, ended_lines}

-- the cards of lines begin a job where the lines do
pub heads_same : (lines : List (List ℕ)) → list_any is_head (map cleaned lines) ≡ list_any begins_job lines
heads_same [] = refl
heads_same (line ∷ lines) = ap (λ (v : Bool). begins_job line || v) (heads_same lines)

passing : (head : List ℕ) (behind : List (List ℕ)) → is_head head ≡ true → list_any is_head behind ≡ false → runs (head ∷ behind) ≡ record { head = head; behind = behind } ∷ []
passing head behind begins none =
    ap (λ (v : Bool). cond v (record { head = head; behind = before_first is_head behind } ∷ runs behind) (runs behind)) begins
    ∙ ap (λ (bs : List (List ℕ)). record { head = head; behind = bs } ∷ runs behind) (before_all is_head behind none)
    ∙ ap (λ (rs : List Run). record { head = head; behind = behind } ∷ rs) (no_run is_head behind none)

-- its cards are those of one run
pub run_alone : (run : Run) → IsRun run → runs (map cleaned (run_lines run)) ≡ cleaned_run run ∷ []
run_alone run is = passing (cleaned run.head) (map cleaned run.behind) is.begins (heads_same run.behind ∙ is.others)

none_in_front : (run : Run) → IsRun run → before_head (map cleaned (run_lines run)) ≡ []
none_in_front run is = before_at is_head [] (cleaned run.head) (map cleaned run.behind) refl is.begins

-- a batch of these runs, behind these cards
abbrev made : List (List ℕ) → List Run → Batch
made before rs =
    let front = front_from (Some []) before in
    record { accounts = front.accounts; jobs = jobs_of front 1 rs; stray = (written before - claimed (Some []) before) + sum_by (λ run. written (outside run)) rs }

-- and they are the batch of its job
pub batch_alone : (run : Run) → IsRun run → batch_of (Some []) (map cleaned (run_lines run)) ≡ lone_batch run
batch_alone run is =
    let stray : 0 + sum_by (λ r. written (outside r)) (cleaned_run run ∷ []) ≡ run_strays run = omega (arith, sum_by-cons (λ r. written (outside r)) (cleaned_run run) []) in
    ap (λ (b : List (List ℕ)). made b (runs (map cleaned (run_lines run)))) (none_in_front run is)
    ∙ ap (made []) (run_alone run is)
    ∙ ap (λ (n : ℕ). record (lone_batch run) { stray = n }) stray

pub batch_of_run : (run : Run) (text : List ℕ) → IsRun run → text ≡ text_of_lines (run_lines run) → batch_with (Some []) text ≡ lone_batch run
batch_of_run run text is text_is =
    ap (λ (t : List ℕ). batch_of (Some []) (cards t)) text_is
    ∙ ap (batch_of (Some [])) (cards_of_lines (run_lines run) is.in_lines)
    ∙ batch_alone run is

-- ---- it is no larger than a batch may be

pub over_by : (a b : Bool) → a ≡ false → b ≡ false → (a || b) ≡ false
over_by false false h k = refl
over_by true b h k = cc
over_by false true h k = cc

pub within : (m n : ℕ) → n ≤ m → nat_lt m n ≡ false
within m n h = grind (arith, nat_tests)

pub fits_by : (text : List ℕ) (cs : List (List ℕ)) (n : ℕ) → length text ≤ 4194304 → length (runs cs) ≡ n → n ≤ 1 → is_over text cs ≡ false
fits_by text cs n few is one =
    over_by (nat_lt 4194304 (length text)) (nat_lt 2000 (count_by is_head cs)) (within 4194304 (length text) few)
    (within 2000 (count_by is_head cs) (omega (arith, length-runs is_head cs)))

pub run_passes_not : (run : Run) (text : List ℕ) → IsRun run → text ≡ text_of_lines (run_lines run) → length text ≤ 4194304 → passes text ≡ false
run_passes_not run text is text_is few =
    let all : map cleaned (ended text) ≡ map cleaned (run_lines run) = ap (λ (t : List ℕ). map cleaned (ended t)) text_is ∙ ap (map cleaned) (ended_lines (run_lines run) is.in_lines) in
    fits_by text (map cleaned (ended text)) 1 few (ap (λ (cs : List (List ℕ)). length (runs cs)) all ∙ ap length (run_alone run is)) (omega arith)

pub run_fits : (run : Run) (text : List ℕ) → IsRun run → text ≡ text_of_lines (run_lines run) → length text ≤ 4194304 → too_large text ≡ false
run_fits run text is text_is few =
    let all : cards text ≡ map cleaned (run_lines run) = ap cards text_is ∙ cards_of_lines (run_lines run) is.in_lines in
    fits_by text (cards text) 1 few (ap (λ (cs : List (List ℕ)). length (runs cs)) all ∙ ap length (run_alone run is)) (omega arith)

-- A night that is being cut, with a job more.
use Rattle.std.proofs.Common.{◌≡◌, ℕ, suc, ◌+◌, ◌-◌, ◌||◌, Bool, true, false, cond, not, one-add, take, nat_lt, List, [], ◌∷◌, ◌++◌, length, map, Some, sum_by, fold, refl, sym, ap, ◌∙◌, append_assoc, append-nil, arith}
use Rattle.std.specs.List.{list_any, position_or_len}
use Rattle.std.proofs.lemmas.Grind.{fold-append}
use Rattle.std.proofs.lemmas.List.Sums.{sum_by-cons}
use Rattle.deck_reader.specs.declared.batch.Account.{Account}
use Rattle.deck_reader.specs.Batch.{Front, Run, before_head, claimed, libraries_in, outside, runs, shelved, written}
use Rattle.deck_reader.specs.Cards.{cleaned}
use Rattle.deck_reader.specs.Forms.{is_head}
use Rattle.deck_reader.proofs.Runs.{no_run}
use Rattle.night_shares.specs.Batches.{front_libraries, front_strays, run_strays}
use Rattle.night_shares.specs.Cutting.{cut_job}
use Rattle.night_shares.specs.Filing.{Filing, night_libraries, window_filings, windows_filings}
use Rattle.night_shares.specs.Jobs.{NightJob, libraries_text, night_jobs, strays_of_lines}
use Rattle.night_shares.specs.Lines.{begins_job, cleaned_run, front_lines, line_runs}
use Rattle.night_shares.specs.Running.{HasLongLine}
use Rattle.night_shares.specs.Windows.{Windows, all_windows, fits, no_windows, unless_none, windows_of, with_job}
use Rattle.night_shares.proofs.LineRuns.{before_all, none_before}

-- ---- windows

windows_push : (room : ℕ) (jobs : List NightJob) (job : NightJob) → windows_of room (jobs ++ job ∷ []) ≡ with_job room (windows_of room jobs) job
windows_push room jobs job = fold-append (with_job room) no_windows jobs (job ∷ [])

-- a job that fits stands in the last window
pub windows_fit : (room : ℕ) (jobs : List NightJob) (job : NightJob) → fits room (windows_of room jobs).last job ≡ true
    → windows_of room (jobs ++ job ∷ []) ≡ record { full = (windows_of room jobs).full; last = (windows_of room jobs).last ++ job ∷ [] }
windows_fit room jobs job is =
    windows_push room jobs job
    ∙ ap (λ (v : Bool). cond v (record { full = (windows_of room jobs).full; last = (windows_of room jobs).last ++ job ∷ [] }) (record { full = (windows_of room jobs).full ++ (windows_of room jobs).last ∷ []; last = job ∷ [] })) is

-- one that doesn't stands in the next
pub windows_next : (room : ℕ) (jobs : List NightJob) (job : NightJob) → fits room (windows_of room jobs).last job ≡ false
    → windows_of room (jobs ++ job ∷ []) ≡ record { full = (windows_of room jobs).full ++ (windows_of room jobs).last ∷ []; last = job ∷ [] }
windows_next room jobs job is =
    windows_push room jobs job
    ∙ ap (λ (v : Bool). cond v (record { full = (windows_of room jobs).full; last = (windows_of room jobs).last ++ job ∷ [] }) (record { full = (windows_of room jobs).full ++ (windows_of room jobs).last ∷ []; last = job ∷ [] })) is

full_by : (v : Bool) (room : ℕ) (w : Windows) (job : NightJob) → fits room w.last job ≡ v → (more : List (List NightJob)) × ((with_job room w job).full ≡ w.full ++ more)
full_by true room w job is = ([], ap (λ (b : Bool). (cond {A = Windows} b (record { full = w.full; last = w.last ++ job ∷ [] }) (record { full = w.full ++ w.last ∷ []; last = job ∷ [] })).full) is ∙ sym (append-nil w.full))
full_by false room w job is = (w.last ∷ [], ap (λ (b : Bool). (cond {A = Windows} b (record { full = w.full; last = w.last ++ job ∷ [] }) (record { full = w.full ++ w.last ∷ []; last = job ∷ [] })).full) is)

full_stays : (room : ℕ) (w : Windows) (jobs : List NightJob) → (more : List (List NightJob)) × ((fold (with_job room) w jobs).full ≡ w.full ++ more)
full_stays room w [] = ([], sym (append-nil w.full))
full_stays room w (job ∷ jobs) =
    let one = full_by (fits room w.last job) room w job refl in
    let rest = full_stays room (with_job room w job) jobs in (
      one.0 ++ rest.0,
      rest.1 ∙ ap (λ (ws : List (List NightJob)). ws ++ rest.0) one.1 ∙ append_assoc w.full one.0 rest.0,
    )

-- windows that are full stay as they are
pub windows_stay : (room : ℕ) (jobs more : List NightJob) → (others : List (List NightJob)) × ((windows_of room (jobs ++ more)).full ≡ (windows_of room jobs).full ++ others)
windows_stay room jobs more =
    let rest = full_stays room (windows_of room jobs) more in
    (rest.0, ap (λ (w : Windows). w.full) (fold-append (with_job room) no_windows jobs more) ∙ rest.1)

-- ---- what is filed of windows

pub filings_append : (chains : ℕ) (libraries : List ℕ) (n : ℕ) (some more : List (List NightJob))
    → windows_filings chains libraries n (some ++ more) ≡ windows_filings chains libraries n some ++ windows_filings chains libraries (n + length some) more
filings_append chains libraries n [] more = let same : n ≡ n + 0 = omega arith in ap (λ (k : ℕ). windows_filings chains libraries k more) same
filings_append chains libraries n (window ∷ some) more =
    let same : n + 1 + length some ≡ n + suc (length some) = omega arith in
    ap (λ (fs : List Filing). window_filings chains libraries n window ++ fs)
    (filings_append chains libraries (n + 1) some more ∙ ap (λ (k : ℕ). windows_filings chains libraries (n + 1) some ++ windows_filings chains libraries k more) same)
    ∙ sym (append_assoc (window_filings chains libraries n window) (windows_filings chains libraries (n + 1) some) (windows_filings chains libraries (n + suc (length some)) more))

pub one_window : (chains : ℕ) (libraries : List ℕ) (n : ℕ) (window : List NightJob) → windows_filings chains libraries n (window ∷ []) ≡ window_filings chains libraries n window
one_window chains libraries n window = append-nil (window_filings chains libraries n window)

-- with a job that begins a window, the one before is filed
pub filed_next : (chains : ℕ) (libraries : List ℕ) (room : ℕ) (jobs : List NightJob) (job : NightJob) → fits room (windows_of room jobs).last job ≡ false
    → windows_filings chains libraries 1 (windows_of room (jobs ++ job ∷ [])).full
    ≡ windows_filings chains libraries 1 (windows_of room jobs).full ++ window_filings chains libraries (1 + length (windows_of room jobs).full) (windows_of room jobs).last
filed_next chains libraries room jobs job is =
    ap (λ (w : Windows). windows_filings chains libraries 1 w.full) (windows_next room jobs job is)
    ∙ filings_append chains libraries 1 (windows_of room jobs).full ((windows_of room jobs).last ∷ [])
    ∙ ap (λ (fs : List Filing). windows_filings chains libraries 1 (windows_of room jobs).full ++ fs) (one_window chains libraries (1 + length (windows_of room jobs).full) (windows_of room jobs).last)

pub filed_fit : (chains : ℕ) (libraries : List ℕ) (room : ℕ) (jobs : List NightJob) (job : NightJob) → fits room (windows_of room jobs).last job ≡ true
    → windows_filings chains libraries 1 (windows_of room (jobs ++ job ∷ [])).full ≡ windows_filings chains libraries 1 (windows_of room jobs).full
filed_fit chains libraries room jobs job is = ap (λ (w : Windows). windows_filings chains libraries 1 w.full) (windows_fit room jobs job is)

-- what is filed of some jobs comes first in what is filed of all
pub filed_first : (chains : ℕ) (libraries : List ℕ) (room : ℕ) (jobs more : List NightJob) → (rest : List Filing)
    × (windows_filings chains libraries 1 (all_windows (windows_of room (jobs ++ more))) ≡ windows_filings chains libraries 1 (windows_of room jobs).full ++ rest)
filed_first chains libraries room jobs more =
    let stay = windows_stay room jobs more in
    let full = (windows_of room jobs).full in
    let last = unless_none (windows_of room (jobs ++ more)).last in (
      windows_filings chains libraries (1 + length full) (stay.0 ++ last),
      ap (λ (ws : List (List NightJob)). windows_filings chains libraries 1 (ws ++ last)) stay.1
          ∙ ap (windows_filings chains libraries 1) (append_assoc full stay.0 last)
          ∙ filings_append chains libraries 1 full (stay.0 ++ last),
    )

-- ---- the jobs of a night

pub jobs_push : (front : Front) (n : ℕ) (done : List Run) (run : Run) → night_jobs front n (done ++ run ∷ []) ≡ night_jobs front n done ++ cut_job front (n + length done) run ∷ []
jobs_push front n [] run = let same : n ≡ n + 0 = omega arith in ap (λ (k : ℕ). cut_job front k run ∷ []) same
jobs_push front n (first ∷ done) run =
    let same : n + 1 + length done ≡ n + suc (length done) = omega arith in
    ap (λ (js : List NightJob). cut_job front n first ∷ js)
    (jobs_push front (n + 1) done run ∙ ap (λ (k : ℕ). night_jobs front (n + 1) done ++ cut_job front k run ∷ []) same)

pub jobs_append : (front : Front) (n : ℕ) (done more : List Run) → night_jobs front n (done ++ more) ≡ night_jobs front n done ++ night_jobs front (n + length done) more
jobs_append front n [] more = let same : n ≡ n + 0 = omega arith in ap (λ (k : ℕ). night_jobs front k more) same
jobs_append front n (first ∷ done) more =
    let same : n + 1 + length done ≡ n + suc (length done) = omega arith in
    ap (λ (js : List NightJob). cut_job front n first ∷ js)
    (jobs_append front (n + 1) done more ∙ ap (λ (k : ℕ). night_jobs front (n + 1) done ++ night_jobs front k more) same)

-- ---- the cards of lines

before_by : (v : Bool) (line : List ℕ) (lines : List (List ℕ)) → before_head (map cleaned lines) ≡ map cleaned (front_lines lines)
    → position_or_len is_head (map cleaned lines) ≡ position_or_len begins_job lines
    → take (cond (not v) (1 + position_or_len is_head (map cleaned lines)) 0) (cleaned line ∷ map cleaned lines) ≡ map cleaned (take (cond (not v) (1 + position_or_len begins_job lines) 0) (line ∷ lines))
before_by true line lines rest at = refl
before_by false line lines rest at =
    ap (λ (n : ℕ). take n (cleaned line ∷ map cleaned lines)) (one-add (position_or_len is_head (map cleaned lines)))
    ∙ ap (λ (cs : List (List ℕ)). cleaned line ∷ cs) rest
    ∙ ap (λ (n : ℕ). map cleaned (take n (line ∷ lines))) (sym (one-add (position_or_len begins_job lines)))

place_same : (lines : List (List ℕ)) → position_or_len is_head (map cleaned lines) ≡ position_or_len begins_job lines
place_same [] = refl
place_same (line ∷ lines) = ap (λ (n : ℕ). cond (not (begins_job line)) (1 + n) 0) (place_same lines)

-- the cards before the first job are those of the lines before it
pub before_cards : (lines : List (List ℕ)) → before_head (map cleaned lines) ≡ map cleaned (front_lines lines)
before_cards [] = refl
before_cards (line ∷ lines) = before_by (begins_job line) line lines (before_cards lines) (place_same lines)

runs_cards_by : (v : Bool) (line : List ℕ) (lines : List (List ℕ)) → before_head (map cleaned lines) ≡ map cleaned (front_lines lines) → runs (map cleaned lines) ≡ map cleaned_run (line_runs lines)
    → cond v (record { head = cleaned line; behind = before_head (map cleaned lines) } ∷ runs (map cleaned lines)) (runs (map cleaned lines))
    ≡ map cleaned_run (cond v (record { head = line; behind = front_lines lines } ∷ line_runs lines) (line_runs lines))
runs_cards_by true line lines before rest = (λ i. record { head = cleaned line; behind = before i } ∷ rest i)
runs_cards_by false line lines before rest = rest

-- the runs of the cards are those of the lines
pub runs_cards : (lines : List (List ℕ)) → runs (map cleaned lines) ≡ map cleaned_run (line_runs lines)
runs_cards [] = refl
runs_cards (line ∷ lines) = runs_cards_by (begins_job line) line lines (before_cards lines) (runs_cards lines)

heads_same : (lines : List (List ℕ)) → list_any is_head (map cleaned lines) ≡ list_any begins_job lines
heads_same [] = refl
heads_same (line ∷ lines) = ap (λ (v : Bool). begins_job line || v) (heads_same lines)

front_alone : (lines : List (List ℕ)) → before_head (map cleaned (front_lines lines)) ≡ map cleaned (front_lines lines)
front_alone lines = before_all is_head (map cleaned (front_lines lines)) (heads_same (front_lines lines) ∙ none_before begins_job lines)

-- the libraries of a night are those of the lines before the first job
pub libraries_of_front : (accounts : List Account) (lines : List (List ℕ)) → front_libraries (front_lines lines) ≡ night_libraries accounts lines
libraries_of_front accounts lines =
    ap (λ (before : List (List ℕ)). libraries_text (map shelved (libraries_in before))) (front_alone lines ∙ sym (before_cards lines))

strays_sum : (rs : List Run) → sum_by (λ run. written (outside run)) (map cleaned_run rs) ≡ sum_by run_strays rs
strays_sum [] = refl
strays_sum (run ∷ rs) =
    sum_by-cons (λ r. written (outside r)) (cleaned_run run) (map cleaned_run rs)
    ∙ ap (λ (n : ℕ). run_strays run + n) (strays_sum rs) ∙ sym (sum_by-cons run_strays run rs)

-- the stray cards of a night are those before the first job, and those of each run
pub strays_of_night : (accounts : List Account) (lines : List (List ℕ)) → front_strays (front_lines lines) + sum_by run_strays (line_runs lines) ≡ strays_of_lines accounts lines
strays_of_night accounts lines =
    let before = before_head (map cleaned lines) in
    let front_cards = map cleaned (front_lines lines) in
    let none : runs front_cards ≡ [] = runs_cards (front_lines lines) ∙ ap (map cleaned_run) (no_run begins_job (front_lines lines) (none_before begins_job lines)) in
    let nothing : (written front_cards - claimed (Some []) front_cards) + 0 ≡ written front_cards - claimed (Some []) front_cards = omega arith in
    let front : front_strays (front_lines lines) ≡ written front_cards - claimed (Some []) front_cards =
    ap (λ (b : List (List ℕ)). (written b - claimed (Some []) b) + sum_by (λ run. written (outside run)) (runs front_cards)) (front_alone lines)
    ∙ ap (λ (rs : List Run). (written front_cards - claimed (Some []) front_cards) + sum_by (λ run. written (outside run)) rs) none ∙ nothing in
    ap (λ (n : ℕ). n + sum_by run_strays (line_runs lines)) front
    ∙ ap (λ (n : ℕ). (written front_cards - claimed (Some []) front_cards) + n) (sym (strays_sum (line_runs lines)) ∙ ap (sum_by (λ run. written (outside run))) (sym (runs_cards lines)))
    ∙ ap (λ (b : List (List ℕ)). (written b - claimed (Some []) b) + sum_by (λ run. written (outside run)) (runs (map cleaned lines))) (sym (before_cards lines))

-- ---- too large

or_true : (b : Bool) → (b || true) ≡ true
or_true true = refl
or_true false = refl

-- a line that is too long is among more lines
pub long_behind : (front lines : List (List ℕ)) → HasLongLine lines → HasLongLine (front ++ lines)
long_behind [] lines long = long
long_behind (line ∷ front) lines long = ap (λ (v : Bool). nat_lt 4194304 (length line) || v) (long_behind front lines long) ∙ or_true (nat_lt 4194304 (length line))

-- Each part of a night is within the limits of a batch.
use Rattle.std.proofs.Common.{◌≡◌, ℕ, ◌+◌, ◌<◌, ◌≤◌, ◌&&◌, ◌||◌, nat_le, nat_lt, Bool, true, false, cond, List, [], ◌∷◌, ◌++◌, length, take, drop, map, filter, fold, count_by, inr, refl, sym, ap, ◌∙◌, arith}
use Rattle.std.specs.List.{AllByRecursion as AllOf, Contains, flat_map, list_any, position_or_len}
use Rattle.std.proofs.lemmas.Bool.{leb-true, ltb-true}
use Rattle.std.proofs.lemmas.Bool.Decides.{nat_tests}
use Rattle.std.proofs.lemmas.Grind.{flat_map-append}
use Rattle.std.proofs.lemmas.List.{length-append, take-append-drop}
use Rattle.std.proofs.lemmas.List.Concat.{length-flat_map}
use Rattle.std.proofs.lemmas.List.Elements.{All-contains, All-from_recursion, Contains-append_right}
use Rattle.std.proofs.lemmas.List.Sums.{sum_by-append, sum_by-cons}
use Rattle.deck_reader.specs.Batch.{Front, Run, before_head, too_large}
use Rattle.deck_reader.specs.Cards.{cards, cleaned, pieces}
use Rattle.deck_reader.specs.Forms.{is_head}
use Rattle.deck_reader.specs.LibraryView.{Shelved}
use Rattle.night_shares.specs.Cutting.{IsLargeBehind, a_run}
use Rattle.night_shares.specs.Filing.{night_libraries, night_windows}
use Rattle.night_shares.specs.Jobs.{NightJob, jobs_of_lines, libraries_text, night_front, night_jobs}
use Rattle.night_shares.specs.Laws.{PartsFit}
use Rattle.night_shares.specs.Lines.{begins_job, ends_job, front_lines, job_lines, line_runs, run_lines, text_of_lines}
use Rattle.night_shares.specs.Plan.{row}
use Rattle.night_shares.specs.Reading.{IsInLine}
use Rattle.night_shares.specs.Running.{IsRun}
use Rattle.night_shares.specs.Windows.{Windows, all_windows, bytes_of, fits, is_of_chain, jobs_of_chain, no_windows, part_text, room_behind, unless_none, windows_of, with_job}
use Rattle.night_shares.proofs.Batches.{over_by, within}
use Rattle.night_shares.proofs.LibraryLines.{IsQuiet, all_take, shelf_lines, shelf_quiet, shelf_text}
use Rattle.night_shares.proofs.LineRuns.{none_before}
use Rattle.night_shares.proofs.NightRuns.{HasRoom}
use Rattle.night_shares.proofs.Pieces.{all_append, pieces_in_line}
use Rattle.night_shares.proofs.Texts.{cards_of_lines}
use Rattle.night_shares.proofs.Windows.{bytes_more, count_more}

neither_of : (a b : Bool) → (a || b) ≡ false → (a ≡ false) × (b ≡ false)
neither_of true b h = cc
neither_of false b h = (refl, h)

both_of : (a b : Bool) → (a && b) ≡ true → (a ≡ true) × (b ≡ true)
both_of true true h = (refl, refl)
both_of true false h = cc
both_of false b h = cc

all_more : {X : Type 0} (P : X → Type 0) (xs : List X) (x : X) → AllOf P xs → P x → AllOf P (xs ++ x ∷ [])
all_more P xs x all this = all_append P xs (x ∷ []) all (this, tt)

-- ---- the runs of a night's lines

run_by : (v : Bool) (line : List ℕ) (ls : List (List ℕ)) → begins_job line ≡ v → IsInLine line → AllOf IsInLine ls → AllOf IsRun (line_runs ls)
    → AllOf IsRun (cond v (record { head = line; behind = front_lines ls } ∷ line_runs ls) (line_runs ls))
run_by true line ls is this all rest =
    (record { begins = is; others = none_before begins_job ls; in_lines = (this, all_take IsInLine (position_or_len begins_job ls) ls all) }, rest)
run_by false line ls is this all rest = rest

pub runs_of : (ls : List (List ℕ)) → AllOf IsInLine ls → AllOf IsRun (line_runs ls)
runs_of [] all = tt
runs_of (line ∷ ls) all = run_by (begins_job line) line ls refl all.0 all.1 (runs_of ls all.1)

few_by : (v : Bool) (n : ℕ) → nat_lt 4194304 n ≡ v → (4194304 < n → ⊥) → n ≤ 4194304
few_by true n is few = absurd (few (grind (arith, nat_tests)))
few_by false n is few = grind (arith, nat_tests)

rooms : (libraries : List ℕ) (rs : List Run) → ((run : Run) → Contains rs run → IsLargeBehind libraries run → ⊥) → AllOf (HasRoom libraries) rs
rooms libraries [] none = tt
rooms libraries (run ∷ rs) none =
    let n = length libraries + length (text_of_lines (run_lines run)) in
    (few_by (nat_lt 4194304 n) n refl (none run (0, omega arith, refl)), rooms libraries rs (λ other has. none other (Contains-append_right (run ∷ []) rs other has)))

-- ---- its jobs

-- a job is one of a run's, and has room in a part behind these libraries
record IsCutJob (libraries : List ℕ) (job : NightJob) : Type 0 where
  run : Run
  is_run : IsRun run
  text_is : job.text ≡ text_of_lines (job_lines run)
  room : length libraries + length job.text ≤ 4194304

shorter : (n : ℕ) (ls : List (List ℕ)) → length (text_of_lines (take n ls)) ≤ length (text_of_lines ls)
shorter n ls =
    let both : length (text_of_lines ls) ≡ length (text_of_lines (take n ls) ++ text_of_lines (drop n ls)) =
    ap (λ (xs : List (List ℕ)). length (text_of_lines xs)) (sym (take-append-drop n ls)) ∙ ap length (flat_map-append row (take n ls) (drop n ls)) in
    omega (arith, both, length-append (text_of_lines (take n ls)) (text_of_lines (drop n ls)))

cut_jobs : (libraries : List ℕ) (front : Front) (number : ℕ) (rs : List Run) → AllOf IsRun rs → AllOf (HasRoom libraries) rs → AllOf (IsCutJob libraries) (night_jobs front number rs)
cut_jobs libraries front number [] runs room = tt
cut_jobs libraries front number (run ∷ rs) runs room =
    let less : length (text_of_lines (job_lines run)) ≤ length (text_of_lines (run_lines run)) = shorter (position_or_len ends_job (run_lines run)) (run_lines run) in
    (record { run = run; is_run = runs.0; text_is = refl; room = omega (arith, room.0, less) }, cut_jobs libraries front (number + 1) rs runs.1 room.1)

-- ---- its windows

record IsWithin (libraries : List ℕ) (window : List NightJob) : Type 0 where
  few : length window ≤ 2000
  room : bytes_of window ≤ room_behind libraries
  jobs : AllOf (IsCutJob libraries) window

record AreWithin (libraries : List ℕ) (windows : Windows) : Type 0 where
  full : AllOf (IsWithin libraries) windows.full
  last : IsWithin libraries windows.last

with_by : (v : Bool) (libraries : List ℕ) (windows : Windows) (job : NightJob) → fits (room_behind libraries) windows.last job ≡ v → AreWithin libraries windows → IsCutJob libraries job
    → AreWithin libraries (cond v (record { full = windows.full; last = windows.last ++ job ∷ [] }) (record { full = windows.full ++ windows.last ∷ []; last = job ∷ [] }))
with_by true libraries windows job is h this =
    let last = windows.last in
    let room = room_behind libraries in
    let both = both_of (nat_lt (length last) 2000) (nat_le (bytes_of last + length job.text) room) is in
    let few : length last < 2000 = ltb-true (length last) 2000 both.0 in
    let fit : bytes_of last + length job.text ≤ room = leb-true (bytes_of last + length job.text) room both.1 in
    record {
      full = h.full;
      last = record { few = omega (arith, few, count_more last job); room = omega (arith, fit, bytes_more last job); jobs = all_more (IsCutJob libraries) last job h.last.jobs this };
    }
with_by false libraries windows job is h this =
    let one : bytes_of (job ∷ []) ≡ length job.text = omega arith in
    record {
      full = all_more (IsWithin libraries) windows.full windows.last h.full h.last;
      last = record { few = omega arith; room = omega (arith, this.room, one); jobs = (this, tt) };
    }

windows_within : (libraries : List ℕ) (windows : Windows) (jobs : List NightJob) → AreWithin libraries windows → AllOf (IsCutJob libraries) jobs → AreWithin libraries (fold (with_job (room_behind libraries)) windows jobs)
windows_within libraries windows [] h all = h
windows_within libraries windows (job ∷ jobs) h all =
    windows_within libraries (with_job (room_behind libraries) windows job) jobs (with_by (fits (room_behind libraries) windows.last job) libraries windows job refl h all.0) all.1

last_within : (libraries : List ℕ) (window : List NightJob) → IsWithin libraries window → AllOf (IsWithin libraries) (unless_none window)
last_within libraries [] h = tt
last_within libraries (job ∷ jobs) h = (h, tt)

none_within : (libraries : List ℕ) → AreWithin libraries no_windows
none_within libraries = record { full = tt; last = record { few = omega arith; room = omega arith; jobs = tt } }

all_within : (libraries : List ℕ) (jobs : List NightJob) → AllOf (IsCutJob libraries) jobs → AllOf (IsWithin libraries) (all_windows (windows_of (room_behind libraries) jobs))
all_within libraries jobs all =
    let h = windows_within libraries no_windows jobs (none_within libraries) all in
    let windows = windows_of (room_behind libraries) jobs in
    all_append (IsWithin libraries) windows.full (unless_none windows.last) h.full (last_within libraries windows.last h.last)

-- ---- a chain's jobs of a window

record AreFewer (libraries : List ℕ) (own window : List NightJob) : Type 0 where
  fewer : length own ≤ length window
  less : bytes_of own ≤ bytes_of window
  jobs : AllOf (IsCutJob libraries) own

fewer_by : (v : Bool) (libraries : List ℕ) (job : NightJob) (own window : List NightJob) → IsCutJob libraries job → AreFewer libraries own window → AreFewer libraries (cond v (job ∷ own) own) (job ∷ window)
fewer_by true libraries job own window this h = record {
  fewer = omega (arith, h.fewer);
  less = omega (arith, h.less, sum_by-cons (λ j. length j.text) job own, sum_by-cons (λ j. length j.text) job window);
  jobs = (this, h.jobs);
}
fewer_by false libraries job own window this h = record { fewer = omega (arith, h.fewer); less = omega (arith, h.less, sum_by-cons (λ j. length j.text) job window); jobs = h.jobs }

fewer_of : (p : NightJob → Bool) (libraries : List ℕ) (window : List NightJob) → AllOf (IsCutJob libraries) window → AreFewer libraries (filter p window) window
fewer_of p libraries [] all = record { fewer = omega arith; less = omega arith; jobs = tt }
fewer_of p libraries (job ∷ window) all = fewer_by (p job) libraries job (filter p window) window all.0 (fewer_of p libraries window all.1)

-- ---- the lines of jobs

record HasLines (jobs : List NightJob) : Type 0 where
  own : List (List ℕ)
  text_is : flat_map (λ j. j.text) jobs ≡ text_of_lines own
  in_lines : AllOf IsInLine own
  heads : count_by begins_job own ≤ length jobs

abbrev one_if : Bool → ℕ
one_if v = cond v 1 0

none_counted : (ls : List (List ℕ)) → list_any begins_job ls ≡ false → count_by begins_job ls ≡ 0
none_counted [] h = refl
none_counted (line ∷ ls) h =
    let both = neither_of (begins_job line) (list_any begins_job ls) h in
    let this : one_if (begins_job line) ≡ 0 = ap one_if both.0 in
    omega (arith, sum_by-cons (λ l. one_if (begins_job l)) line ls, this, none_counted ls both.1)

at_most_one : (v : Bool) → one_if v ≤ 1
at_most_one true = omega arith
at_most_one false = omega arith

one_head : (run : Run) → IsRun run → count_by begins_job (job_lines run) ≤ 1
one_head run is =
    let n = position_or_len ends_job (run_lines run) in
    let count = λ (l : List ℕ). one_if (begins_job l) in
    let both : count_by begins_job (run_lines run) ≡ count_by begins_job (take n (run_lines run)) + count_by begins_job (drop n (run_lines run)) =
    ap (count_by begins_job) (sym (take-append-drop n (run_lines run))) ∙ sum_by-append count (take n (run_lines run)) (drop n (run_lines run)) in
    omega (arith, both, sum_by-cons count run.head run.behind, none_counted run.behind is.others, at_most_one (begins_job run.head))

lines_of : (libraries : List ℕ) (jobs : List NightJob) → AllOf (IsCutJob libraries) jobs → HasLines jobs
lines_of libraries [] all = record { own = []; text_is = refl; in_lines = tt; heads = omega arith }
lines_of libraries (job ∷ jobs) all =
    let this = all.0 in
    let rest = lines_of libraries jobs all.1 in
    let mine = job_lines this.run in
    let heads : count_by begins_job (mine ++ rest.own) ≡ count_by begins_job mine + count_by begins_job rest.own = sum_by-append (λ l. one_if (begins_job l)) mine rest.own in
    record {
      own = mine ++ rest.own;
      text_is = (λ i. this.text_is i ++ rest.text_is i) ∙ sym (flat_map-append row mine rest.own);
      in_lines = all_append IsInLine mine rest.own (all_take IsInLine (position_or_len ends_job (run_lines this.run)) (run_lines this.run) this.is_run.in_lines) rest.in_lines;
      heads = omega (arith, heads, one_head this.run this.is_run, rest.heads);
    }

quiet_in_line : (ls : List (List ℕ)) → AllOf IsQuiet ls → AllOf IsInLine ls
quiet_in_line [] all = tt
quiet_in_line (line ∷ ls) all = (all.0.in_line, quiet_in_line ls all.1)

quiet_none : (ls : List (List ℕ)) → AllOf IsQuiet ls → list_any begins_job ls ≡ false
quiet_none [] all = refl
quiet_none (line ∷ ls) all = ap (λ (v : Bool). v || list_any begins_job ls) all.0.no_job ∙ quiet_none ls all.1

heads_of : (ls : List (List ℕ)) → count_by is_head (map cleaned ls) ≡ count_by begins_job ls
heads_of [] = refl
heads_of (line ∷ ls) =
    sum_by-cons (λ c. one_if (is_head c)) (cleaned line) (map cleaned ls)
    ∙ ap (λ (n : ℕ). one_if (begins_job line) + n) (heads_of ls) ∙ sym (sum_by-cons (λ l. one_if (begins_job l)) line ls)

-- ---- a part

part_fits : (shelf : List Shelved) (jobs : List NightJob) → AllOf IsQuiet (shelf_lines shelf) → AllOf (IsCutJob (libraries_text shelf)) jobs → length jobs ≤ 2000 → bytes_of jobs ≤ room_behind (libraries_text shelf)
    → too_large (part_text (libraries_text shelf) jobs) ≡ false
part_fits shelf [] quiet all few room = refl
part_fits shelf (job ∷ jobs) quiet all few room =
    let libraries = libraries_text shelf in
    let text = part_text libraries (job ∷ jobs) in
    let h = lines_of libraries (job ∷ jobs) all in
    let first = shelf_lines shelf in
    let ls = first ++ h.own in
    let text_is : text ≡ text_of_lines ls = (λ i. shelf_text shelf i ++ h.text_is i) ∙ sym (flat_map-append row first h.own) in
    let in_lines = all_append IsInLine first h.own (quiet_in_line first quiet) h.in_lines in
    let cards_are : cards text ≡ map cleaned ls = ap cards text_is ∙ cards_of_lines ls in_lines in
    let long : length text ≡ length libraries + bytes_of (job ∷ jobs) =
    omega (arith, length-append libraries (flat_map (λ j. j.text) (job ∷ jobs)), length-flat_map (λ (j : NightJob). j.text) (job ∷ jobs)) in
    let counted : count_by is_head (cards text) ≡ count_by begins_job first + count_by begins_job h.own =
    ap (count_by is_head) cards_are ∙ heads_of ls ∙ sum_by-append (λ l. one_if (begins_job l)) first h.own in
    let heads : count_by is_head (cards text) ≤ 2000 = omega (arith, few, h.heads, counted, none_counted first (quiet_none first quiet)) in
    over_by (nat_lt 4194304 (length text)) (nat_lt 2000 (count_by is_head (cards text))) (within 4194304 (length text) (omega (arith, long, room, all.0.room))) (within 2000 (count_by is_head (cards text)) heads)

pub parts_fit : PartsFit
parts_fit chains chain accounts bytes window small has =
    let ls = pieces bytes in
    let libraries = night_libraries accounts ls in
    let jobs = cut_jobs libraries (night_front accounts ls) 1 (line_runs ls) (runs_of ls (pieces_in_line bytes)) (rooms libraries (line_runs ls) (λ run here large. small (inr (a_run run here large)))) in
    let fit = All-contains (IsWithin libraries) (night_windows accounts ls) window (All-from_recursion (IsWithin libraries) (night_windows accounts ls) (all_within libraries (jobs_of_lines accounts ls) jobs)) has in
    let own = fewer_of (λ j. is_of_chain chains chain j.job.account) libraries window fit.jobs in
    part_fits (night_front accounts ls).shelf (jobs_of_chain chains chain window) (shelf_quiet (before_head (map cleaned ls))) own.jobs (omega (arith, own.fewer, fit.few)) (omega (arith, own.less, fit.room))

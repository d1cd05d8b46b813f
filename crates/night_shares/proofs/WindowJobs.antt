-- The jobs of a night, and the windows that they stand in.
use Rattle.std.proofs.Common.{◌≡◌, ℕ, ◌+◌, Bool, true, false, cond, List, [], ◌∷◌, ◌++◌, map, fold, refl, sym, ap, ◌∙◌, append_assoc}
use Rattle.std.specs.List.{flat_map}
use Rattle.std.proofs.lemmas.Grind.{flat_map-append}
use Rattle.deck_reader.specs.Batch.{Front, Run, jobs_of}
use Rattle.deck_reader.specs.Cards.{pieces}
use Rattle.deck_reader.specs.JobView.{JobView}
use Rattle.night_shares.specs.Filing.{night_libraries}
use Rattle.night_shares.specs.Jobs.{NightJob, job_in, jobs_of_lines, night_front, night_jobs}
use Rattle.night_shares.specs.Laws.{JobsAreTheNights, WindowsAreTheJobs}
use Rattle.night_shares.specs.Lines.{cleaned_run, line_runs}
use Rattle.night_shares.specs.Windows.{Windows, all_windows, fits, no_windows, room_behind, unless_none, with_job}
use Rattle.night_shares.proofs.Cuttings.{runs_cards}

jobs_same : (front : Front) (number : ℕ) (rs : List Run) → map (λ j. j.job) (night_jobs front number rs) ≡ jobs_of front number (map cleaned_run rs)
jobs_same front number [] = refl
jobs_same front number (run ∷ rs) = ap (λ (js : List JobView). job_in front number run ∷ js) (jobs_same front (number + 1) rs)

pub jobs_are_the_nights : JobsAreTheNights
jobs_are_the_nights accounts bytes =
    let lines = pieces bytes in
    let front = night_front accounts lines in
    jobs_same front 1 (line_runs lines) ∙ ap (jobs_of front 1) (sym (runs_cards lines))

-- ---- windows

-- the jobs of windows, one after the other
abbrev jobs_in : Windows → List NightJob
jobs_in windows = flat_map (λ w. w) windows.full ++ windows.last

nil_behind : {X : Type 0} (xs : List X) → xs ++ [] ≡ xs
nil_behind [] = refl
nil_behind (x ∷ xs) = ap (λ (ys : List _). x ∷ ys) (nil_behind xs)

with_by : (v : Bool) (windows : Windows) (job : NightJob)
    → jobs_in (cond v (record { full = windows.full; last = windows.last ++ job ∷ [] }) (record { full = windows.full ++ windows.last ∷ []; last = job ∷ [] })) ≡ jobs_in windows ++ job ∷ []
with_by true windows job = sym (append_assoc (flat_map (λ w. w) windows.full) windows.last (job ∷ []))
with_by false windows job =
    ap (λ (js : List NightJob). js ++ job ∷ [])
    (flat_map-append (λ (w : List NightJob). w) windows.full (windows.last ∷ []) ∙ ap (λ (js : List NightJob). flat_map (λ w. w) windows.full ++ js) (nil_behind windows.last))

with_all : (room : ℕ) (windows : Windows) (jobs : List NightJob) → jobs_in (fold (with_job room) windows jobs) ≡ jobs_in windows ++ jobs
with_all room windows [] = sym (nil_behind (jobs_in windows))
with_all room windows (job ∷ jobs) =
    with_all room (with_job room windows job) jobs
    ∙ ap (λ (js : List NightJob). js ++ jobs) (with_by (fits room windows.last job) windows job)
    ∙ append_assoc (jobs_in windows) (job ∷ []) jobs

last_one : (window : List NightJob) → flat_map (λ w. w) (unless_none window) ≡ window
last_one [] = refl
last_one (job ∷ jobs) = nil_behind (job ∷ jobs)

in_all : (windows : Windows) → flat_map (λ w. w) (all_windows windows) ≡ jobs_in windows
in_all windows =
    flat_map-append (λ (w : List NightJob). w) windows.full (unless_none windows.last)
    ∙ ap (λ (js : List NightJob). flat_map (λ w. w) windows.full ++ js) (last_one windows.last)

pub windows_are_the_jobs : WindowsAreTheJobs
windows_are_the_jobs accounts lines =
    let room = room_behind (night_libraries accounts lines) in
    let jobs = jobs_of_lines accounts lines in
    in_all (fold (with_job room) no_windows jobs) ∙ with_all room no_windows jobs

-- The windows of a night that is cut.
use Rattle.std.proofs.Common.{◌≡◌, ℕ, zero, suc, ◌+◌, ◌<◌, ◌≤◌, ◌&&◌, nat_le, nat_lt, Bool, true, false, cond, List, [], ◌∷◌, ◌++◌, length, take, drop, get_or, map, flat_map, fold, refl, sym, ap, ◌∙◌, append_assoc, append-nil, arith}
use Rattle.std.specs.List.{AllByRecursion}
use Rattle.std.proofs.lemmas.Bool.Decides.{nat_tests}
use Rattle.std.proofs.lemmas.List.{length-append, length-map, map-append, take-map}
use Rattle.deck_reader.specs.JobView.{JobView}
use Rattle.night_listings.specs.Nights.{jobs_of_windows}
use Rattle.night_shares.specs.Jobs.{NightJob}
use Rattle.night_shares.specs.Windows.{Windows, all_windows, bytes_of, fits, no_windows, unless_none, windows_of, with_job}
use Rattle.whole_nights.specs.Parts.{views_of}

-- the jobs of windows one after the other
abbrev pub flat : List (List NightJob) → List NightJob
flat windows = flat_map (λ w. w) windows

-- ---- each has at most 2,000

abbrev IsShort : List NightJob → Type 0
IsShort window = length window ≤ 2000

record AreShort (windows : Windows) : Type 0 where
  pub full : AllByRecursion IsShort windows.full
  pub last : IsShort windows.last

push_short : (windows : List (List NightJob)) (window : List NightJob) → AllByRecursion IsShort windows → IsShort window → AllByRecursion IsShort (windows ++ window ∷ [])
push_short [] window all this = (this, tt)
push_short (first ∷ windows) window all this = (all.0, push_short windows window all.1 this)

and_left : (a b : Bool) → (a && b) ≡ true → a ≡ true
and_left true b h = refl
and_left false b h = cc

short_by : (v : Bool) (room : ℕ) (windows : Windows) (job : NightJob) → fits room windows.last job ≡ v → AreShort windows
    → AreShort (cond v (record { full = windows.full; last = windows.last ++ job ∷ [] }) (record { full = windows.full ++ windows.last ∷ []; last = job ∷ [] }))
short_by true room windows job is are =
    let room_there : nat_lt (length windows.last) 2000 ≡ true = and_left (nat_lt (length windows.last) 2000) (nat_le (bytes_of windows.last + length job.text) room) is in
    let less : length windows.last < 2000 = grind (arith, nat_tests) in
    record { full = are.full; last = omega (arith, less, length-append windows.last (job ∷ [])) }
short_by false room windows job is are = record { full = push_short windows.full windows.last are.full are.last; last = omega arith }

all_short : (room : ℕ) (windows : Windows) (jobs : List NightJob) → AreShort windows → AreShort (fold (with_job room) windows jobs)
all_short room windows [] are = are
all_short room windows (job ∷ jobs) are = all_short room (with_job room windows job) jobs (short_by (fits room windows.last job) room windows job refl are)

append_short : (xs ys : List (List NightJob)) → AllByRecursion IsShort xs → AllByRecursion IsShort ys → AllByRecursion IsShort (xs ++ ys)
append_short [] ys all more = more
append_short (x ∷ xs) ys all more = (all.0, append_short xs ys all.1 more)

unless_short : (window : List NightJob) → IsShort window → AllByRecursion IsShort (unless_none window)
unless_short [] this = tt
unless_short (job ∷ jobs) this = (this, tt)

pub windows_short : (room : ℕ) (jobs : List NightJob) → AllByRecursion (λ window. length window ≤ 2000) (all_windows (windows_of room jobs))
windows_short room jobs =
    let are = all_short room no_windows jobs (record { full = tt; last = omega arith }) in
    append_short (windows_of room jobs).full (unless_none (windows_of room jobs).last) are.full (unless_short (windows_of room jobs).last are.last)

pub views_short : (windows : List (List NightJob)) → AllByRecursion (λ window. length window ≤ 2000) windows → AllByRecursion (λ jobs. length jobs ≤ 2000) (map views_of windows)
views_short [] all = tt
views_short (window ∷ windows) all =
    let many : length (views_of window) ≡ length window = length-map window (λ (j : NightJob). j.job) in
    let this : length window ≤ 2000 = all.0 in
    (omega (arith, many, this), views_short windows all.1)

-- ---- a window among them

-- the windows at a number, from 0: the jobs before it, its own, and those behind it
pub parted_at : (windows : List (List NightJob)) (n : ℕ) → n < length windows → flat windows ≡ flat (take n windows) ++ (get_or windows n [] ++ flat (drop (suc n) windows))
parted_at [] n less = absurd (omega (arith, less))
parted_at (window ∷ windows) zero less = refl
parted_at (window ∷ windows) (suc n) less =
    ap (λ (js : List NightJob). window ++ js) (parted_at windows n (omega (arith, less)))
    ∙ sym (append_assoc window (flat (take n windows)) (get_or windows n [] ++ flat (drop (suc n) windows)))

pub views_flat : (windows : List (List NightJob)) → views_of (flat windows) ≡ jobs_of_windows (map views_of windows)
views_flat [] = refl
views_flat (window ∷ windows) = map-append (λ (j : NightJob). j.job) window (flat windows) ∙ ap (λ (js : List JobView). views_of window ++ js) (views_flat windows)

pub views_before : (windows : List (List NightJob)) (n : ℕ) → views_of (flat (take n windows)) ≡ jobs_of_windows (take n (map views_of windows))
views_before windows n = views_flat (take n windows) ∙ ap jobs_of_windows (sym (take-map views_of n windows))

pub views_at : (windows : List (List NightJob)) (n : ℕ) → views_of (get_or windows n []) ≡ get_or (map views_of windows) n []
views_at [] n = refl
views_at (window ∷ windows) zero = refl
views_at (window ∷ windows) (suc n) = views_at windows n

-- with one window more
pub next_jobs : (windows : List (List JobView)) (n : ℕ) → n < length windows → jobs_of_windows (take (suc n) windows) ≡ jobs_of_windows (take n windows) ++ get_or windows n []
next_jobs [] n less = absurd (omega (arith, less))
next_jobs (window ∷ windows) zero less = append-nil window
next_jobs (window ∷ windows) (suc n) less =
    ap (λ (js : List JobView). window ++ js) (next_jobs windows n (omega (arith, less)))
    ∙ sym (append_assoc window (jobs_of_windows (take n windows)) (get_or windows n []))

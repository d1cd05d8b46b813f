-- The jobs of a night in windows, each of which a batch has room for, and the parts of a window, one for each chain.
use Rattle.std.specs.Prelude.{ℕ, ◌+◌, ◌-◌, ◌==◌, Bool, false, ◌&&◌, nat_le, nat_lt, List, [], ◌∷◌, ◌++◌, Option, None, Some, filter, flat_map, fold, if◌then◌else◌, length, sum_by}
use Rattle.night_shares.specs.Jobs.{NightJob}
use Rattle.night_shares.specs.Plan.{chain_of}

-- the bytes of these jobs' lines
abbrev pub bytes_of : List NightJob → ℕ
bytes_of jobs = sum_by (λ j. length j.text) jobs

-- a job more fits behind these: there are at most 2,000 then, and no more bytes than there is room for
abbrev pub fits : ℕ → List NightJob → NightJob → Bool
fits room window job = nat_lt (length window) 2000 && nat_le (bytes_of window + length job.text) room

-- the windows that are full, and the one behind them
pub record Windows : Type 0 where
  pub full : List (List NightJob)
  pub last : List NightJob

-- before the first job
abbrev pub no_windows : Windows
no_windows = record { full = []; last = [] }

-- a job more: in the last window where it fits there, and otherwise in one of its own
abbrev pub with_job : ℕ → Windows → NightJob → Windows
with_job room windows job =
    if fits room windows.last job then record { full = windows.full; last = windows.last ++ job ∷ [] }
    else record { full = windows.full ++ windows.last ∷ []; last = job ∷ [] }

-- the windows of these jobs, of which each has as many as fit
abbrev pub windows_of : ℕ → List NightJob → Windows
windows_of room jobs = fold (with_job room) no_windows jobs

-- a window, unless it has no job
abbrev pub unless_none : List NightJob → List (List NightJob)
unless_none [] = []
unless_none (job ∷ jobs) = (job ∷ jobs) ∷ []

abbrev pub all_windows : Windows → List (List NightJob)
all_windows windows = windows.full ++ unless_none windows.last

-- how many bytes of jobs a part has room for, behind these of libraries
abbrev pub room_behind : List ℕ → ℕ
room_behind libraries = 4194304 - length libraries

-- ---- parts

-- whether an account is of this chain
abbrev pub is_of_chain : ℕ → ℕ → Option ℕ → Bool
is_of_chain chains chain None = false
is_of_chain chains chain (Some account) = chain_of chains account == chain

-- a window's jobs of a chain
abbrev pub jobs_of_chain : ℕ → ℕ → List NightJob → List NightJob
jobs_of_chain chains chain window = filter (λ j. is_of_chain chains chain j.job.account) window

-- the cards of a part: the libraries, and its jobs' lines; none where it has no job
abbrev pub part_text : List ℕ → List NightJob → List ℕ
part_text libraries [] = []
part_text libraries (job ∷ jobs) = libraries ++ flat_map (λ j. j.text) (job ∷ jobs)

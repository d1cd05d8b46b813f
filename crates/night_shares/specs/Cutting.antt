-- What a night that is being cut stands for, and when it can't be cut.
use Rattle.std.specs.Prelude.{ℕ, ◌≡◌, ◌+◌, ◌-◌, ◌<◌, ◌≤◌, ◌^◌, ◌⊎◌, List, [], ◌∷◌, ◌++◌, codes, length, Contains, None, ⊤}
use Rattle.deck_reader.specs.declared.batch.Account.{Account}
use Rattle.deck_reader.specs.Batch.{Front, Run, account_of}
use Rattle.batch_io.specs.Causes.{Rose}
use Rattle.night_shares.specs.declared.cutter.Cutter.{Cutter}
use Rattle.night_shares.specs.declared.stop.Stop.{Stop}
use Rattle.night_shares.specs.declared.stop.Stop.TheVariants.{NoMemory, ReadFault, WriteFault, TooLarge, BadAccounts}
use Rattle.night_shares.specs.declared.shelf.NightFile.TheVariants.{Plan}
use Rattle.night_shares.specs.Filing.{Filing, night_libraries, windows_filings}
use Rattle.night_shares.specs.Held.{IsWindow}
use Rattle.night_shares.specs.Jobs.{NightJob, job_in}
use Rattle.night_shares.specs.Lines.{front_lines, job_lines, line_runs, run_lines, text_of_lines}
use Rattle.night_shares.specs.Running.{HasLongLine}
use Rattle.night_shares.specs.Plan.{last_row}
use Rattle.night_shares.specs.Windows.{all_windows, room_behind, windows_of}

-- no account has the name that a job has that can't be read
abbrev pub NoneUnread : List Account → Type 0
NoneUnread accounts = account_of accounts (codes "?") ≡ None

-- so many chains, accounts and libraries; these jobs have come, of which those of the last window aren't filed, and so many stray cards
pub record IsCutter (chains : ℕ) (accounts : List Account) (libraries : List ℕ) (jobs : List NightJob) (stray : ℕ) (cutter : Cutter) : Type 0 where
  pub chains_are : cutter.chains ≡ chains
  pub accounts_are : cutter.accounts ≡ accounts
  pub libraries_are : cutter.libraries.items ≡ libraries
  pub window_is : IsWindow chains libraries (1 + length (windows_of (room_behind libraries) jobs).full) (windows_of (room_behind libraries) jobs).last cutter.window
  pub stray_is : cutter.stray ≡ stray

-- all but the window stays
pub record KeepsRest (old new : Cutter) : Type 0 where
  pub chains : new.chains ≡ old.chains
  pub accounts : new.accounts ≡ old.accounts
  pub libraries : new.libraries ≡ old.libraries
  pub stray : new.stray ≡ old.stray

-- what is filed of these jobs: the windows that are full
abbrev pub filed_of : ℕ → List ℕ → List NightJob → List Filing
filed_of chains libraries jobs = windows_filings chains libraries 1 (windows_of (room_behind libraries) jobs).full

-- and at the end: all windows, and the plan's last line
abbrev pub all_filed_of : ℕ → List ℕ → List NightJob → ℕ → List Filing
all_filed_of chains libraries jobs stray =
    windows_filings chains libraries 1 (all_windows (windows_of (room_behind libraries) jobs)) ++ record { file = Plan; text = last_row stray } ∷ []

-- a run's job among those of a night
abbrev pub cut_job : Front → ℕ → Run → NightJob
cut_job front number run = record { job = job_in front number run; text = text_of_lines (job_lines run) }

-- a run has no room in a part behind these libraries
abbrev pub IsLargeBehind : List ℕ → Run → Type 0
IsLargeBehind libraries run = 4194304 < length libraries + length (text_of_lines (run_lines run))

-- runs of these lines can't be cut: a line has over 4,194,304 bytes; or those of a job, up to the next, have with the libraries'; or there are
-- 4,294,967,295 jobs or more
pub data AreTooLarge (libraries : List ℕ) (lines : List (List ℕ)) : Type 0 where
  a_line : HasLongLine lines → AreTooLarge libraries lines
  a_run : (run : Run) → Contains (line_runs lines) run → IsLargeBehind libraries run → AreTooLarge libraries lines
  the_jobs : 2 ^ 32 - 1 ≤ length (line_runs lines) → AreTooLarge libraries lines

-- a night of these lines can't be: the lines before the first job have over 4,194,304 bytes with a job card; or the runs can't
abbrev pub IsTooLarge : List Account → List (List ℕ) → Type 0
IsTooLarge accounts lines = (4194304 < length (text_of_lines (front_lines lines)) + 5) ⊎ AreTooLarge (night_libraries accounts lines) lines

-- why cutting stopped: a fault that was counted, or the cards are too large
abbrev pub CutCause : Stop → ℕ → ℕ → ℕ → ℕ → Type 0 → Type 0
CutCause NoMemory read read' filed filed' Large = ⊤
CutCause ReadFault read read' filed filed' Large = Rose read read'
CutCause WriteFault read read' filed filed' Large = Rose filed filed'
CutCause TooLarge read read' filed filed' Large = Large
CutCause BadAccounts read read' filed filed' Large = ⊥

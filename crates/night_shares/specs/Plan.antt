-- The plan of a night that is cut: a text in lines, which says where the section of each job comes from.
use Rattle.std.specs.Prelude.{ℕ, ◌+◌, ◌%◌, List, [], ◌∷◌, ◌++◌, Option, Some, None, codes, decimal, flat_map}
use Rattle.deck_reader.specs.declared.batch.Account.{Account}
use Rattle.deck_reader.specs.declared.batch.Flaw.{Flaw}
use Rattle.deck_reader.specs.Flaws.{flaw_number}
use Rattle.deck_reader.specs.JobView.{JobView}

-- a line of text
abbrev pub row : List ℕ → List ℕ
row text = text ++ 10 ∷ []

-- the chain of an account, from 0, by its number in the accounts file, from 0
abbrev pub chain_of : ℕ → ℕ → ℕ
chain_of chains account = account % chains

-- of a job whose account is open: its chain, from 1, of which it is the next job
abbrev pub chain_row : ℕ → ℕ → List ℕ
chain_row chains account = row (decimal (chain_of chains account + 1))

-- of a job without an account, which is in no chain: the number of its flaw, its name and its account's name
abbrev pub refused_row : Flaw → JobView → List ℕ
refused_row flaw job = row (codes "REFUSED " ++ decimal (flaw_number flaw) ++ codes " " ++ job.name ++ codes " " ++ job.account_name)

-- a job without an account has a flaw
abbrev pub unpaid_row : Option Flaw → JobView → List ℕ
unpaid_row None job = []
unpaid_row (Some flaw) job = refused_row flaw job

abbrev pub row_by : ℕ → JobView → Option ℕ → List ℕ
row_by chains job None = unpaid_row job.flaw job
row_by chains job (Some account) = chain_row chains account

-- the line of a job
abbrev pub job_row : ℕ → JobView → List ℕ
job_row chains job = row_by chains job job.account

-- the lines of a window, under its number
abbrev pub window_rows : ℕ → ℕ → List JobView → List ℕ
window_rows chains number jobs = row (codes "WINDOW " ++ decimal number) ++ flat_map (job_row chains) jobs

-- the lines of windows, numbered from here
abbrev pub windows_rows : ℕ → ℕ → List (List JobView) → List ℕ
windows_rows chains number [] = []
windows_rows chains number (window ∷ windows) = window_rows chains number window ++ windows_rows chains (number + 1) windows

-- an account's line: its name and what it opens with
abbrev pub account_row : Account → List ℕ
account_row account = row (codes "ACCOUNT " ++ account.name ++ codes " " ++ decimal account.opening)

-- the first lines: how many chains there are, and the accounts, in order
abbrev pub front_rows : ℕ → List Account → List ℕ
front_rows chains accounts = row (codes "NIGHT 1 CHAINS " ++ decimal chains) ++ flat_map account_row accounts

-- the last line: how many stray cards there are
abbrev pub last_row : ℕ → List ℕ
last_row stray = row (codes "STRAY " ++ decimal stray)

-- the plan of a night with these accounts, whose jobs stand in these windows, and so many stray cards
abbrev pub plan_text : ℕ → List Account → List (List JobView) → ℕ → List ℕ
plan_text chains accounts windows stray = front_rows chains accounts ++ windows_rows chains 1 windows ++ last_row stray

-- The plan of a night, as text: a line for each thing, in order.
use Rattle.std.specs.Prelude.{ℕ, ◌≡◌, ◌≤◌, ◌<◌, ◌+◌, ◌^◌, ◌==◌, ◌&&◌, Bool, true, not, List, [], ◌∷◌, ◌++◌, codes, decimal, length, ⊤}
use Rattle.std.specs.List.{list_all}
use Rattle.deck_reader.specs.declared.batch.Account.{Account}
use Rattle.deck_reader.specs.Flaws.{flaw_number}
use Rattle.night_merge.specs.declared.plan.Entry.{Entry}
use Rattle.night_merge.specs.declared.plan.Entry.TheVariants.{Job, Refused}
use Rattle.night_merge.specs.declared.plan.Line.{Line}
use Rattle.night_merge.specs.declared.plan.Line.TheVariants.{Night, Opened, Window, Listed, Stray}

-- what a plan says: how many chains there are, the accounts, in windows one after the other what it says of each job, and how many cards are stray
pub record Plan : Type 0 where
  pub chains : ℕ
  pub accounts : List Account
  pub windows : List (List Entry)
  pub stray : ℕ

-- ---- its text

abbrev pub entry_text : Entry → List ℕ
entry_text (Job chain) = decimal (chain + 1)
entry_text (Refused flaw name account_name) = codes "REFUSED " ++ (decimal (flaw_number flaw) ++ 32 ∷ (name ++ 32 ∷ account_name))

abbrev pub line_text : Line → List ℕ
line_text (Night chains) = codes "NIGHT 1 CHAINS " ++ decimal chains
line_text (Opened account) = codes "ACCOUNT " ++ (account.name ++ 32 ∷ decimal account.opening)
line_text (Window number) = codes "WINDOW " ++ decimal number
line_text (Listed entry) = entry_text entry
line_text (Stray count) = codes "STRAY " ++ decimal count

-- a line with its line feed
abbrev pub fed : Line → List ℕ
fed line = line_text line ++ 10 ∷ []

abbrev pub accounts_text : List Account → List ℕ
accounts_text [] = []
accounts_text (account ∷ accounts) = fed (Opened account) ++ accounts_text accounts

abbrev pub entries_text : List Entry → List ℕ
entries_text [] = []
entries_text (entry ∷ entries) = fed (Listed entry) ++ entries_text entries

-- windows, the first of which has this number
abbrev pub windows_text : ℕ → List (List Entry) → List ℕ
windows_text number [] = []
windows_text number (entries ∷ windows) = fed (Window number) ++ (entries_text entries ++ windows_text (number + 1) windows)

abbrev pub plan_text : Plan → List ℕ
plan_text plan = fed (Night plan.chains) ++ (accounts_text plan.accounts ++ (windows_text 1 plan.windows ++ fed (Stray plan.stray)))

-- the first of the lines of these windows, the first of which has this number, and of the last line; and the text of the lines behind it
abbrev pub first_line : ℕ → List (List Entry) → ℕ → Line
first_line number [] stray = Stray stray
first_line number (entries ∷ windows) stray = Window number

abbrev pub lines_behind : ℕ → List (List Entry) → ℕ → List ℕ
lines_behind number [] stray = []
lines_behind number (entries ∷ windows) stray = entries_text entries ++ (windows_text (number + 1) windows ++ fed (Stray stray))

-- ---- what a plan may say

-- a word of at most 80 bytes, without a blank and a line feed
abbrev pub is_word : List ℕ → Bool
is_word name = list_all (λ b. not (b == 32) && not (b == 10)) name

-- such a name
pub record IsWord (name : List ℕ) : Type 0 where
  pub whole : is_word name ≡ true
  pub short : length name ≤ 80

-- a line whose numbers and names a plan has room for
abbrev pub IsSaid : Line → Type 0
IsSaid (Night chains) = chains < 2 ^ 32
IsSaid (Opened account) = IsWord account.name × (account.opening < 2 ^ 64)
IsSaid (Window number) = number < 2 ^ 32
IsSaid (Listed (Job chain)) = chain + 1 < 2 ^ 32
IsSaid (Listed (Refused flaw name account_name)) = IsWord name × IsWord account_name
IsSaid (Stray count) = count < 2 ^ 64

-- so are the lines of accounts and jobs
abbrev pub AreOpened : List Account → Type 0
AreOpened [] = ⊤
AreOpened (account ∷ accounts) = IsSaid (Opened account) × AreOpened accounts

abbrev pub AreListed : List Entry → Type 0
AreListed [] = ⊤
AreListed (entry ∷ entries) = IsSaid (Listed entry) × AreListed entries

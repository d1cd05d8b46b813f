-- What a night is joined from: what its plan says of each job, and the sections and closing lines of its parts.
use Rattle.std.specs.Prelude.{ℕ, ◌+◌, ◌-◌, ◌==◌, ◌≡◌, ◌≤◌, ◌&&◌, not, Bool, true, false, List, [], ◌∷◌, ◌++◌, Option, Some, None, map, reverse, length, drop, codes, decimal, if◌then◌else◌}
use Rattle.std.specs.List.{list_all, suffix_len}
use Rattle.deck_reader.specs.declared.batch.Account.{Account}
use Rattle.deck_reader.specs.JobView.{JobView}
use Rattle.account_book.specs.BookView.{openings_of}
use Rattle.account_book.specs.Places.{place_balance}
use Rattle.algolw_meaning.specs.Charging.{charged}
use Rattle.batch_listing.specs.Listing.{listing_of}
use Rattle.batch_listing.specs.Texts.{closing, closing_line}
use Rattle.listing_parts.specs.Lines.{IsUpward, text_up}
use Rattle.listing_parts.specs.Sections.{IsListing}
use Rattle.night_listings.specs.Nights.{first_of, flaw_body, in_chain, names, numbered, others_of, part_of, rests_in}

-- ---- numbers put on and taken off

-- sections under numbers from here, each by itself
abbrev pub each_numbered : ℕ → List (List ℕ) → List (List ℕ)
each_numbered number [] = []
each_numbered number (rest ∷ rests) = numbered number rest ∷ each_numbered (number + 1) rests

-- what the section under this number has behind it
abbrev pub behind : ℕ → List ℕ → List ℕ
behind number section = drop (5 + length (decimal number)) section

-- the same of each of these sections, whose numbers go up from here
abbrev pub each_behind : ℕ → List (List ℕ) → List (List ℕ)
each_behind number [] = []
each_behind number (section ∷ sections) = behind number section ∷ each_behind (number + 1) sections

-- ---- names, as a plan has them

-- neither a blank nor a line feed in it
abbrev pub is_word : List ℕ → Bool
is_word name = list_all (λ b. not (b == 32) && not (b == 10)) name

-- a word of at most 8 bytes
pub record IsShortWord (name : List ℕ) : Type 0 where
  pub whole : is_word name ≡ true
  pub short : length name ≤ 8

-- the names on a job's title are short words
pub record IsNamed (job : JobView) : Type 0 where
  pub name : IsShortWord job.name
  pub account_name : IsShortWord job.account_name

-- ---- the plan

-- what a plan says of a job: that it is the next one of this chain, or, where it has no account, what its section has behind its number
pub data Planned : Type 0 where
  next : (chain : ℕ) → Planned
  refused : (rest : List ℕ) → Planned

abbrev pub planned_by : (ℕ → ℕ) → JobView → Option ℕ → Planned
planned_by chain job None = refused (names job ++ flaw_body job.flaw)
planned_by chain job (Some account) = next (chain account)

-- what the plan of a night that is divided so says of a job
abbrev pub planned : (ℕ → ℕ) → JobView → Planned
planned chain job = planned_by chain job job.account

-- whether it is the next one of this chain
abbrev pub is_next : ℕ → Planned → Bool
is_next c (next chain) = chain == c
is_next c (refused rest) = false

-- what the section of a planned job has behind its number, from what each chain has
abbrev pub rest_by : (ℕ → List (List ℕ)) → Planned → List ℕ
rest_by supply (next chain) = first_of (supply chain)
rest_by supply (refused rest) = rest

-- what is left of each chain's then
abbrev pub left_by : (ℕ → List (List ℕ)) → Planned → ℕ → List (List ℕ)
left_by supply (next chain) c = if chain == c then others_of (supply c) else supply c
left_by supply (refused rest) c = supply c

-- the sections of planned jobs, numbered from here
abbrev pub joined : ℕ → (ℕ → List (List ℕ)) → List Planned → List ℕ
joined number supply [] = []
joined number supply (job ∷ plan) = numbered number (rest_by supply job) ++ joined (number + 1) (left_by supply job) plan

-- a window of a night, as it is joined: what the plan says of its jobs, and what each chain's sections have behind their numbers
pub record Window : Type 0 where
  pub plan : List Planned
  pub rests : ℕ → List (List ℕ)

-- the windows of a night that is divided so, the first of which stands behind these jobs
abbrev pub windows_behind : (ℕ → ℕ) → List ℕ → List JobView → List (List JobView) → List Window
windows_behind chain openings earlier [] = []
windows_behind chain openings earlier (jobs ∷ windows) =
    record { plan = map (planned chain) jobs; rests = λ c. rests_in (in_chain chain c) openings earlier jobs } ∷ windows_behind chain openings (earlier ++ jobs) windows

-- the sections of windows one after the other, numbered from here
abbrev pub joined_windows : ℕ → List Window → List ℕ
joined_windows number [] = []
joined_windows number (window ∷ windows) = joined number window.rests window.plan ++ joined_windows (number + length window.plan) windows

-- ---- closing lines

-- the closing line of an account, without its line feed
abbrev pub closing_text : Account → ℕ → List ℕ
closing_text account balance = account.name ++ codes " OPENING " ++ decimal account.opening ++ codes " CHARGES " ++ decimal (account.opening - balance) ++ codes " CLOSING " ++ decimal balance

-- what stands behind the last blank, or all where there is none
abbrev pub behind_last_blank : List ℕ → List ℕ
behind_last_blank text = drop (length text - suffix_len (λ b. not (b == 32)) text) text

-- the closing lines of the accounts among these that are in a share, where the first has this number: each opens with one balance, and closes with the other
abbrev pub closings_in : (Option ℕ → Bool) → ℕ → (ℕ → ℕ) → (ℕ → ℕ) → List Account → List ℕ
closings_in own account before after [] = []
closings_in own account before after (a ∷ accounts) =
    if own (Some account) then closing_line (record a { opening = before account }) (after account) ++ closings_in own (account + 1) before after accounts
    else closings_in own (account + 1) before after accounts

-- what each account has left behind these jobs
abbrev pub left_after : List Account → List JobView → ℕ → ℕ
left_after accounts jobs account = place_balance (openings_of accounts) (map charged jobs) account

-- ---- a part

-- The lines of the listing of a part, in which so many cards are stray, the last one first, are a listing by its form; its sections, the last one first, are what the
-- night's sections of its jobs have behind their numbers, under numbers from 1, and its closing lines take each of its accounts from what the earlier jobs leave to
-- what the window's leave.
pub record IsPartApart (chain : ℕ → ℕ) (c : ℕ) (accounts : List Account) (earlier jobs : List JobView) (stray : ℕ) : Type 0 where
  pub up : List (List ℕ)
  pub closing_part : List (List ℕ)
  pub sections_part : List (List (List ℕ))
  pub upward : IsUpward (listing_of (record (part_of chain c accounts earlier jobs) { stray = stray })) up
  pub form : IsListing up closing_part sections_part
  pub sections_are : map text_up (reverse sections_part) ≡ each_numbered 1 (rests_in (in_chain chain c) (openings_of accounts) earlier jobs)
  pub closing_is : text_up closing_part ≡ closing (closings_in (in_chain chain c) 0 (left_after accounts earlier) (left_after accounts (earlier ++ jobs)) accounts) stray

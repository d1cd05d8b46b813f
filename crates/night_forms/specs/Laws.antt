-- A night joined from its plan and the listings of its parts, taken apart.
use Rattle.std.specs.Prelude.{ℕ, ◌≡◌, ◌+◌, ◌≤◌, ◌<◌, Bool, true, List, [], ◌++◌, Option, All, length, filter, map, decimal, slice_index}
use Rattle.std.specs.List.{list_all}
use Rattle.deck_reader.specs.declared.batch.Account.{Account}
use Rattle.deck_reader.specs.JobView.{JobView}
use Rattle.account_book.specs.BookView.{openings_of}
use Rattle.batch_listing.specs.Behind.{with_balances}
use Rattle.batch_listing.specs.Listing.{closing_accounts_of, closing_lines, sections}
use Rattle.batch_listing.specs.Texts.{balance_lines, closing, heading}
use Rattle.listing_forms.specs.Laws.{NameHolds}
use Rattle.listing_parts.specs.Lines.{is_line}
use Rattle.listing_parts.specs.Sections.{begins}
use Rattle.night_listings.specs.Nights.{in_chain, jobs_of_windows, night, night_listing, numbered, rests_in}
use Rattle.night_forms.specs.Joining.{IsNamed, IsPartApart, behind, behind_last_blank, closing_text, each_behind, each_numbered, is_next, joined, joined_windows, left_after, planned, windows_behind}

-- ---- sections

-- a number is taken off as it was put on
abbrev pub NumberComesOff : Type 0
NumberComesOff = (number : ℕ) (rest : List ℕ) → behind number (numbered number rest) ≡ rest

-- so are numbers that go up
abbrev pub NumbersComeOff : Type 0
NumbersComeOff = (number : ℕ) (rests : List (List ℕ)) → each_behind number (each_numbered number rests) ≡ rests

-- the listing of each part of a night comes apart, whatever its jobs print and however many cards are stray in it, into the sections and closing lines that the night
-- has, but for the numbers
abbrev pub PartsAreApart : Type 0
PartsAreApart = (chain : ℕ → ℕ) (c : ℕ) (accounts : List Account) (bytes : List ℕ) (earlier jobs more : List JobView) (stray : ℕ) → All NameHolds accounts
    → (night accounts bytes).jobs ≡ earlier ++ (jobs ++ more) → IsPartApart chain c accounts earlier jobs stray

-- the names on the titles of a night's jobs are short words
abbrev pub JobsAreNamed : Type 0
JobsAreNamed = (accounts : List Account) (bytes : List ℕ) → All IsNamed (night accounts bytes).jobs

-- a part has a section for each job that the plan gives its chain
abbrev pub PartsAreCounted : Type 0
PartsAreCounted = (chain : ℕ → ℕ) (c : ℕ) (openings : List ℕ) (earlier jobs : List JobView)
    → length (rests_in (in_chain chain c) openings earlier jobs) ≡ length (filter (is_next c) (map (planned chain) jobs))

-- what a section has behind its number begins with a blank, so that it tells where the number ends
abbrev pub RestsBegin : Type 0
RestsBegin = (own : Option ℕ → Bool) (openings : List ℕ) (earlier jobs : List JobView) → list_all (begins 32) (rests_in own openings earlier jobs) ≡ true

-- a window joined by its plan, from what its parts' sections have behind their numbers, and numbered on: with it the night's sections go on to its end
abbrev pub WindowJoined : Type 0
WindowJoined = (chain : ℕ → ℕ) (accounts : List Account) (bytes : List ℕ) (earlier jobs more : List JobView) (supply : ℕ → List (List ℕ))
    → (night accounts bytes).jobs ≡ earlier ++ (jobs ++ more)
    → ((c : ℕ) → supply c ≡ rests_in (in_chain chain c) (openings_of accounts) earlier jobs)
    → sections (openings_of accounts) earlier ++ joined (1 + length earlier) supply (map (planned chain) jobs) ≡ sections (openings_of accounts) (earlier ++ jobs)

-- all windows of a night, each joined by its plan and numbered on, are its sections
abbrev pub NightJoined : Type 0
NightJoined = (chain : ℕ → ℕ) (accounts : List Account) (bytes : List ℕ) (windows : List (List JobView)) → (night accounts bytes).jobs ≡ jobs_of_windows windows
    → night_listing accounts bytes
    ≡ heading ++ joined_windows 1 (windows_behind chain (openings_of accounts) [] windows)
    ++ closing (closing_lines (openings_of accounts) (jobs_of_windows windows) accounts) (night accounts bytes).stray

-- ---- balances

-- a closing line is one line
abbrev pub ClosingsAreLines : Type 0
ClosingsAreLines = (account : Account) (balance : ℕ) → NameHolds account → is_line (closing_text account balance) ≡ true

-- and states behind its last blank what is left
abbrev pub ClosingsStateBalances : Type 0
ClosingsStateBalances = (account : Account) (balance : ℕ) → behind_last_blank (closing_text account balance) ≡ decimal balance

-- no job leaves an account more than it had
abbrev pub BalancesFall : Type 0
BalancesFall = (accounts : List Account) (earlier jobs : List JobView) (account : ℕ) → left_after accounts (earlier ++ jobs) account ≤ left_after accounts earlier account

-- an account of a chain to which the plan gives no job of a window keeps what it has
abbrev pub IdleChainsKeep : Type 0
IdleChainsKeep = (chain : ℕ → ℕ) (accounts : List Account) (earlier jobs : List JobView) (account : ℕ)
    → length (filter (is_next (chain account)) (map (planned chain) jobs)) ≡ 0 → left_after accounts (earlier ++ jobs) account ≡ left_after accounts earlier account

-- ---- the night

-- what a table of the balances behind all jobs closes a night with: the last lines of its listing, and the accounts of the next night
pub record ClosesWith (accounts : List Account) (bytes left : List ℕ) : Type 0 where
  pub listing : night_listing accounts bytes ≡ heading ++ sections (openings_of accounts) (night accounts bytes).jobs ++ closing (balance_lines accounts left) (night accounts bytes).stray
  pub accounts_next : closing_accounts_of (night accounts bytes) ≡ with_balances accounts left

-- a night closes with any table that has what each account has left
abbrev pub NightCloses : Type 0
NightCloses = (accounts : List Account) (bytes left : List ℕ) → length left ≡ length accounts
    → ((account : ℕ) → account < length accounts → slice_index left account ≡ left_after accounts (night accounts bytes).jobs account) → ClosesWith accounts bytes left

-- The batch that an input is.
use Rattle.std.specs.Prelude.{ℕ, ◌+◌, ◌-◌, Bool, ◌||◌, List, [], ◌∷◌, nat_lt, if◌then◌else◌, length, take, map, codes, bytes_eq, Option, Some, None, Result, Ok, Err, count_by, position, sum_by}
use Rattle.std.specs.List.{find, list_any, filter_map, before_first, after_first}
use Rattle.std.specs.Option.{option_map}
use Rattle.deck_reader.specs.declared.batch.Flaw.{Flaw}
use Rattle.deck_reader.specs.declared.batch.Flaw.TheVariants as flaws
use Rattle.deck_reader.specs.declared.batch.Account.{Account}
use Rattle.deck_reader.specs.declared.batch.Batch.{Batch}
use Rattle.deck_reader.specs.declared.forms.JobCard.{JobCard}
use Rattle.deck_reader.specs.declared.options.Settings.{Settings}
use Rattle.deck_reader.specs.LibraryView.{LibraryView, Shelved}
use Rattle.deck_reader.specs.JobView.{JobView}
use Rattle.deck_reader.specs.Named.{first_by_name, with_one}
use Rattle.deck_reader.specs.Cards.{cleaned, ended, cards}
use Rattle.deck_reader.specs.Forms.{is_head, is_data, is_end, is_control_card, account_card, library_card}
use Rattle.deck_reader.specs.JobCards.{job_card}
use Rattle.deck_reader.specs.Options.{unset, steps_of, lines_of, is_in_range}
use Rattle.deck_reader.specs.CardFlaws.{is_long, is_foul}

-- the account of this name, by its number
abbrev pub account_of : List Account → List ℕ → Option ℕ
account_of accounts name = position (λ a. bytes_eq a.name name) accounts

-- the account that a card states, where it has the form
abbrev pub account_on : List ℕ → Option Account
account_on card = option_map (λ c. record { name = c.name; opening = c.balance }) (account_card card)

-- those of the accounts whose name no earlier one has
abbrev pub first_of_each_name : List Account → List Account
first_of_each_name accounts = first_by_name (λ a. a.name) accounts

-- the accounts that these cards open: the first 500 that have the form and a new name
abbrev pub opened : List (List ℕ) → List Account
opened cards = take 500 (first_of_each_name (filter_map account_on cards))

-- an account more, where a card states one, its name is new and there is room
abbrev pub with_account : List Account → Option Account → List Account
with_account accounts account = with_one (λ a. a.name) 500 accounts account

-- the cards before the first head
abbrev pub before_head : List (List ℕ) → List (List ℕ)
before_head cards = before_first is_head cards

-- a card that passes a test, and the cards behind it up to the next that does
pub record Run : Type 0 where
  pub head : List ℕ
  pub behind : List (List ℕ)

-- the runs of these cards, one for each that passes the test
abbrev pub runs_by : (List ℕ → Bool) → List (List ℕ) → List Run
runs_by passes [] = []
runs_by passes (card ∷ cards) = if passes card then record { head = card; behind = before_first passes cards } ∷ runs_by passes cards else runs_by passes cards

-- one for each head: its cards are those up to the next head
abbrev pub runs : List (List ℕ) → List Run
runs cards = runs_by is_head cards

-- the cards of a run's job behind the head: those up to the first end card
abbrev pub body : Run → List (List ℕ)
body run = before_first is_end run.behind

-- the cards of a run behind its first end card
abbrev pub outside : Run → List (List ℕ)
outside run = after_first is_end run.behind

-- ---- libraries

-- the library that a control card begins, with the cards up to the next one
abbrev pub library_on : Run → Option LibraryView
library_on run = option_map (λ name. record { name = name; cards = run.behind }) (library_card run.head)

-- those that control cards begin: the first 20 that have the form and a new name
abbrev pub libraries_on : List Run → List LibraryView
libraries_on controls = take 20 (first_by_name (λ l. l.name) (filter_map library_on controls))

-- a library more, where a control card begins one, its name is new and there is room
abbrev pub with_library : List LibraryView → Option LibraryView → List LibraryView
with_library libraries library = with_one (λ l. l.name) 20 libraries library

-- the libraries of these cards, which stand before the first head
abbrev pub libraries_in : List (List ℕ) → List LibraryView
libraries_in front = libraries_on (runs_by is_control_card front)

-- over 500 cards, or one that is over 80 bytes or holds a byte that isn't allowed
abbrev pub is_ill : LibraryView → Bool
is_ill library = nat_lt 500 (length library.cards) || (list_any is_long library.cards || list_any is_foul library.cards)

-- an ill-formed library is kept by its name alone
abbrev pub shelved : LibraryView → Shelved
shelved library = record { name = library.name; library = if is_ill library then None else Some library }

-- what a kept library gives a job: a flaw where it is ill formed
abbrev pub library_there : Option LibraryView → Result (Option LibraryView) Flaw
library_there None = Err flaws.LibraryIllFormed
library_there (Some library) = Ok (Some library)

-- what a name gives a job: a flaw where no library that is kept has it
abbrev pub library_found : Option Shelved → Result (Option LibraryView) Flaw
library_found None = Err flaws.LibraryUnknown
library_found (Some kept) = library_there kept.library

-- the library of this name, where one is named
abbrev pub library_named : List Shelved → Option (List ℕ) → Result (Option LibraryView) Flaw
library_named shelf None = Ok None
library_named shelf (Some name) = library_found (find (λ l. bytes_eq l.name name) shelf)

-- the library that a job card names
abbrev pub library_for : List Shelved → Option JobCard → Result (Option LibraryView) Flaw
library_for shelf None = Ok None
library_for shelf (Some card) = library_named shelf card.settings.library

-- what the jobs of a batch are judged by: its accounts, and its libraries
pub record Front : Type 0 where
  pub accounts : List Account
  pub shelf : List Shelved

-- ---- jobs

-- a job with these settings
abbrev pub job_view : ℕ → List ℕ → List ℕ → Option ℕ → Option LibraryView → List (List ℕ) → List (List ℕ) → Settings → ℕ → Option Flaw → JobView
job_view number name account_name account library deck data_cards settings count flaw =
    record { number = number; name = name; account_name = account_name; account = account; library = library; deck = deck; data_cards = data_cards; steps = steps_of settings; lines = lines_of settings; cards = count; flaw = flaw }

-- a job that can't be read
abbrev pub unread : ℕ → ℕ → Flaw → JobView
unread number count flaw = job_view number (codes "?") (codes "?") None None [] [] unset count (Some flaw)

-- a job that is flawed though its card can be read
abbrev pub flawed : ℕ → ℕ → JobCard → Option ℕ → Settings → Flaw → JobView
flawed number count card account settings flaw = job_view number card.name card.account account None [] [] settings count (Some flaw)

abbrev pub job_on : ℕ → ℕ → JobCard → Option ℕ → Result (Option LibraryView) Flaw → List (List ℕ) → List (List ℕ) → JobView
job_on number count card None library deck data_cards = flawed number count card None card.settings flaws.AccountUnknown
job_on number count card (Some account) (Err flaw) deck data_cards = flawed number count card (Some account) card.settings flaw
job_on number count card (Some account) (Ok library) deck data_cards = job_view number card.name card.account (Some account) library deck data_cards card.settings count None

abbrev pub job_by : ℕ → ℕ → Option JobCard → Option ℕ → Result (Option LibraryView) Flaw → List (List ℕ) → List (List ℕ) → JobView
job_by number count None account library deck data_cards = unread number count flaws.JobCard
job_by number count (Some card) account library deck data_cards =
    if is_in_range card.settings then (if nat_lt 2000 count then flawed number count card account card.settings flaws.TooManyCards else job_on number count card account library deck data_cards)
    else flawed number count card account unset flaws.NumberOutOfRange

-- the job of these parts, with the least flaw that applies: its number, how many cards it has, whether one is over 80 bytes and
-- whether one holds a byte that isn't allowed, what its job card states, its account, its library, its deck and its data
abbrev pub job_from : ℕ → ℕ → Bool → Bool → Option JobCard → Option ℕ → Result (Option LibraryView) Flaw → List (List ℕ) → List (List ℕ) → JobView
job_from number count long foul card account library deck data_cards =
    if long then unread number count flaws.CardTooLong else (if foul then unread number count flaws.ByteNotAllowed else job_by number count card account library deck data_cards)

-- the open account of a job card
abbrev pub account_for : List Account → Option JobCard → Option ℕ
account_for accounts None = None
account_for accounts (Some card) = account_of accounts card.account

-- the job of a head and the cards behind it
abbrev pub job_of : Front → ℕ → List ℕ → List (List ℕ) → JobView
job_of front number head behind =
    job_from number (length behind + 1) (list_any is_long (head ∷ behind)) (list_any is_foul (head ∷ behind)) (job_card head) (account_for front.accounts (job_card head)) (library_for front.shelf (job_card head)) (before_first is_data behind) (after_first is_data behind)

-- the jobs of these runs, numbered from here
abbrev pub jobs_of : Front → ℕ → List Run → List JobView
jobs_of front number [] = []
jobs_of front number (run ∷ runs) = job_of front number run.head (body run) ∷ jobs_of front (number + 1) runs

-- a run that an end card has ended
abbrev pub is_ended : Run → Bool
is_ended run = list_any is_end run.behind

-- the runs that are over: all but a last one that no end card has ended
abbrev pub over : List Run → List Run
over [] = []
over (run ∷ []) = if is_ended run then run ∷ [] else []
over (run ∷ next ∷ runs) = run ∷ over (next ∷ runs)

-- the accounts of a batch with these cards before its first head: those that are given, or else those that the cards open
abbrev pub accounts_from : Option (List Account) → List (List ℕ) → List Account
accounts_from None front = opened front
accounts_from (Some accounts) front = accounts

-- how many of these cards open an account: none where the accounts are given
abbrev pub openings_in : Option (List Account) → List (List ℕ) → ℕ
openings_in None front = length (opened front)
openings_in (Some accounts) front = 0

-- the accounts of a batch of these cards
abbrev pub accounts_of : Option (List Account) → List (List ℕ) → List Account
accounts_of given cards = accounts_from given (before_head cards)

-- the libraries of a batch of these cards, as they are kept
abbrev pub shelf_of : List (List ℕ) → List Shelved
shelf_of cards = map shelved (libraries_in (before_head cards))

-- what the jobs behind these cards, which stand before the first head, are judged by
abbrev pub front_from : Option (List Account) → List (List ℕ) → Front
front_from given front = record { accounts = accounts_from given front; shelf = map shelved (libraries_in front) }

-- what the jobs of a batch of these cards are judged by
abbrev pub front_of : Option (List Account) → List (List ℕ) → Front
front_of given cards = front_from given (before_head cards)

-- the accounts, once a head has come
abbrev pub known_accounts_of : Option (List Account) → List (List ℕ) → Option (List Account)
known_accounts_of given cards = if list_any is_head cards then Some (accounts_of given cards) else None

-- the libraries, once a head has come
abbrev pub known_libraries_of : List (List ℕ) → Option (List Shelved)
known_libraries_of cards = if list_any is_head cards then Some (shelf_of cards) else None

-- the jobs that these cards have ended
abbrev pub ended_jobs_of : Option (List Account) → List (List ℕ) → List JobView
ended_jobs_of given cards = jobs_of (front_of given cards) 1 (over (runs cards))

-- how many of these cards aren't blank
abbrev pub written : List (List ℕ) → ℕ
written cards = count_by (λ c. nat_lt 0 (length c)) cards

-- how many cards of these libraries aren't blank, those that begin them among them
abbrev pub shelf_cards : List LibraryView → ℕ
shelf_cards libraries = sum_by (λ l. 1 + written l.cards) libraries

-- how many of these cards, which stand before the first head, open an account, begin a library, or are a library's and not blank
abbrev pub claimed : Option (List Account) → List (List ℕ) → ℕ
claimed given front = openings_in given front + shelf_cards (libraries_in front)

-- the stray cards: those before the first head that open no account, begin no library and are no library's, and those behind a job's end
abbrev pub strays : Option (List Account) → List (List ℕ) → ℕ
strays given cards = (written (before_head cards) - claimed given (before_head cards)) + sum_by (λ run. written (outside run)) (runs cards)

-- the batch of these cards
abbrev pub batch_of : Option (List Account) → List (List ℕ) → Batch
batch_of given cards =
    let front = front_of given cards in
    record { accounts = front.accounts; jobs = jobs_of front 1 (runs cards); stray = strays given cards }

-- the batch of an input, with the accounts that are given, where they are
abbrev pub batch_with : Option (List Account) → List ℕ → Batch
batch_with given bytes = batch_of given (cards bytes)

-- the batch of an input whose own cards open its accounts
abbrev pub batch : List ℕ → Batch
batch bytes = batch_with None bytes

-- the jobs that a part of an input has ended, by the cards that a line feed has ended
abbrev pub ended_jobs : Option (List Account) → List ℕ → List JobView
ended_jobs given bytes = ended_jobs_of given (map cleaned (ended bytes))

-- the accounts that are known from a part of an input, once such a card has begun a job
abbrev pub known_accounts : Option (List Account) → List ℕ → Option (List Account)
known_accounts given bytes = known_accounts_of given (map cleaned (ended bytes))

-- the libraries that are known from a part of an input, once such a card has begun a job
abbrev pub known_libraries : List ℕ → Option (List Shelved)
known_libraries bytes = known_libraries_of (map cleaned (ended bytes))

-- more than 4,194,304 bytes or 2,000 heads
abbrev pub is_over : List ℕ → List (List ℕ) → Bool
is_over bytes cards = nat_lt 4194304 (length bytes) || nat_lt 2000 (count_by is_head cards)

-- bytes that pass a limit, whatever comes behind them
abbrev pub passes : List ℕ → Bool
passes bytes = is_over bytes (map cleaned (ended bytes))

-- a whole input that passes a limit
abbrev pub too_large : List ℕ → Bool
too_large bytes = is_over bytes (cards bytes)

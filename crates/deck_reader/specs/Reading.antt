-- What a reader stands for, while the cards of a batch come.
use Rattle.std.specs.Prelude.{ℕ, ◌≡◌, ◌≤◌, ◌<◌, ◌+◌, ◌^◌, ◌-◌, ◌⊎◌, Bool, true, false, ◌&&◌, ◌||◌, not, min, nat_le, nat_lt, List, [], ◌∷◌, ◌++◌, length, map, Option, Some, None, is_some, IsSome, is_ok, count_by, if◌then◌else◌, Result, OnOk}
use Rattle.std.specs.List.{list_any, before_first, after_first}
use Rattle.std.specs.Option.{option_map}
use Rattle.deck_reader.specs.declared.batch.Account.{Account}
use Rattle.deck_reader.specs.declared.forms.JobCard.{JobCard}
use Rattle.deck_reader.specs.declared.open_job.OpenJob.{OpenJob}
use Rattle.deck_reader.specs.declared.open_library.OpenLibrary.{OpenLibrary}
use Rattle.deck_reader.specs.declared.reading.Reading.{Reading}
use Rattle.deck_reader.specs.declared.reading.Stage.{Stage}
use Rattle.deck_reader.specs.declared.reading.Stage.TheVariants.{Front, Library, Inside, Outside}
use Rattle.deck_reader.specs.Forms.{is_head, is_data, is_control_card, library_card}
use Rattle.deck_reader.specs.JobCards.{job_card, counted}
use Rattle.deck_reader.specs.Options.{is_in_range}
use Rattle.deck_reader.specs.Named.{is_free}
use Rattle.deck_reader.specs.Batch.{Run, runs_by, runs, before_head, library_on, libraries_on, with_library, account_on, with_account, is_ill, shelved, library_for, accounts_of, front_of, claimed, strays, written, jobs_of, is_ended, account_for, job_from}
use Rattle.deck_reader.specs.Batch as batches
use Rattle.deck_reader.specs.LibraryView.{Shelved}
use Rattle.deck_reader.specs.Shelves.{lying, free_name}
use Rattle.deck_reader.specs.JobView.{JobView}
use Rattle.deck_reader.specs.CardFlaws.{is_long, is_foul}

-- ---- libraries

-- a library under way stands for its name and the cards behind its first one by now
pub record IsOpenLibrary (name : List ℕ) (behind : List (List ℕ)) (library : OpenLibrary) : Type 0 where
  pub name_is : library.name ≡ name
  pub ill_is : library.is_ill ≡ is_ill (record { name = name; cards = behind })
  pub cards_are : library.is_ill ≡ false → library.cards ≡ behind

-- a library with one card more
pub record Grows (old new : OpenLibrary) (card : List ℕ) : Type 0 where
  pub name : new.name ≡ old.name
  pub ill : new.is_ill ≡ (old.is_ill || (nat_le 500 (length old.cards) || (is_long card || is_foul card)))
  pub cards : new.is_ill ≡ false → new.cards ≡ old.cards ++ card ∷ []

-- the library that has come
abbrev pub shut : OpenLibrary → Shelved
shut library = record { name = library.name; library = if library.is_ill then None else Some (record { name = library.name; cards = library.cards }) }

-- the libraries, with the one under way behind them
abbrev pub shelf_with : Stage → List Shelved → List Shelved
shelf_with Front shelf = shelf
shelf_with (Library library) shelf = shelf ++ shut library ∷ []
shelf_with (Inside job) shelf = shelf
shelf_with Outside shelf = shelf

-- the last of these control cards begins no library that is kept, whatever stands behind it
pub record EndsNone (controls : List Run) : Type 0 where
  pub done : List Run
  pub last : Run
  pub are : controls ≡ done ++ last ∷ []
  pub none : (behind : List (List ℕ)) → with_library (libraries_on done) (library_on (record last { behind = behind })) ≡ libraries_on done

-- the last of these control cards begins a library that is kept, and this stands for it
pub record EndsOpen (controls : List Run) (shelf : List Shelved) (library : OpenLibrary) : Type 0 where
  pub done : List Run
  pub last : Run
  pub name : List ℕ
  pub are : controls ≡ done ++ last ∷ []
  pub begins : library_card last.head ≡ Some name
  pub free : is_free (λ l. l.name) 20 (libraries_on done) name ≡ true
  pub shelf_is : shelf ≡ map shelved (libraries_on done)
  pub stands : IsOpenLibrary name last.behind library

-- the stage says which libraries of these control cards are there
abbrev pub AtShelf : Stage → List Shelved → List Run → Type 0
AtShelf Front shelf controls = (shelf ≡ map shelved (libraries_on controls)) × ((controls ≡ []) ⊎ EndsNone controls)
AtShelf (Library library) shelf controls = EndsOpen controls shelf library
AtShelf (Inside job) shelf controls = shelf ≡ map shelved (libraries_on controls)
AtShelf Outside shelf controls = shelf ≡ map shelved (libraries_on controls)

-- ---- jobs

abbrev pub card_may_run : Option JobCard → Bool
card_may_run None = false
card_may_run (Some card) = is_in_range card.settings

-- no flaw applies by now
abbrev pub may_run : OpenJob → Bool
may_run job = (not job.has_long && not job.has_foul) && (nat_le job.cards 2000 && (is_some job.account && (is_ok job.library && card_may_run job.card)))

-- a job with one card more, of which the deck and the data are kept where it may still run
pub record Pushes (old new : OpenJob) (card : List ℕ) : Type 0 where
  pub number : new.number ≡ old.number
  pub card_same : new.card ≡ old.card
  pub account : new.account ≡ old.account
  pub library : new.library ≡ old.library
  pub count : new.cards ≡ min (old.cards + 1) (2 ^ 32 - 1)
  pub long : new.has_long ≡ (old.has_long || is_long card)
  pub foul : new.has_foul ≡ (old.has_foul || is_foul card)
  pub in_data : new.in_data ≡ (old.in_data || is_data card)
  pub deck : may_run new ≡ true → new.deck ≡ (if old.in_data || is_data card then old.deck else old.deck ++ card ∷ [])
  pub data_cards : may_run new ≡ true → new.data_cards ≡ (if old.in_data then old.data_cards ++ card ∷ [] else old.data_cards)

-- an open job stands for a head and the cards behind it by now
pub record IsOpenJob (front : batches.Front) (number : ℕ) (head : List ℕ) (behind : List (List ℕ)) (job : OpenJob) : Type 0 where
  pub number_is : job.number ≡ number
  pub card_is : job.card ≡ option_map counted (job_card head)
  pub account_is : job.account ≡ account_for front.accounts (job_card head)
  pub library_is : lying job.library ≡ library_for front.shelf (job_card head)
  pub count_is : job.cards ≡ length behind + 1
  pub long_is : job.has_long ≡ list_any is_long (head ∷ behind)
  pub foul_is : job.has_foul ≡ list_any is_foul (head ∷ behind)
  pub in_data_is : job.in_data ≡ list_any is_data behind
  pub deck_is : may_run job ≡ true → job.deck ≡ before_first is_data behind
  pub data_is : may_run job ≡ true → job.data_cards ≡ after_first is_data behind

-- the job that has come
abbrev pub closed : OpenJob → JobView
closed job = job_from job.number job.cards job.has_long job.has_foul job.card job.account (lying job.library) job.deck job.data_cards

-- the jobs, with the one under way behind them
abbrev pub jobs_with : Stage → List JobView → List JobView
jobs_with Front jobs = jobs
jobs_with (Library library) jobs = jobs
jobs_with (Inside job) jobs = jobs ++ closed job ∷ []
jobs_with Outside jobs = jobs

-- the library or the job under way is ended
pub record Closes (old new : Reading) : Type 0 where
  pub given : new.given ≡ old.given
  pub accounts : new.accounts ≡ old.accounts
  pub shelf : new.shelf ≡ shelf_with old.stage old.shelf
  pub jobs : new.jobs ≡ jobs_with old.stage old.jobs
  pub heads : new.heads ≡ old.heads
  pub stray : new.stray ≡ old.stray
  pub stage : new.stage ≡ Outside

-- the stage says whether there is a last run, and whether it has ended; while it hasn't, its job stands open behind the others
abbrev pub AtStage : Stage → batches.Front → List (List ℕ) → List JobView → Type 0
AtStage Front front cards jobs = (runs cards ≡ []) × (jobs ≡ [])
AtStage (Library library) front cards jobs = (runs cards ≡ []) × (jobs ≡ [])
AtStage (Inside job) front cards jobs = (done : List Run) × (last : Run) × (runs cards ≡ done ++ last ∷ []) × (is_ended last ≡ false)
    × (jobs ≡ jobs_of front 1 done) × IsOpenJob front (length done + 1) last.head last.behind job
AtStage Outside front cards jobs = (done : List Run) × (last : Run) × (runs cards ≡ done ++ last ∷ []) × (is_ended last ≡ true) × (jobs ≡ jobs_of front 1 (runs cards))

-- a stage before the first head
abbrev pub is_front : Stage → Bool
is_front Front = true
is_front (Library library) = true
is_front (Inside job) = false
is_front Outside = false

-- a reading stands for the cards that have come; its accounts may be given
pub record IsReading (given : Option (List Account)) (reading : Reading) (cards : List (List ℕ)) : Type 0 where
  pub given_is : reading.given ≡ is_some given
  pub accounts_are : reading.accounts ≡ accounts_of given cards
  pub written_more : claimed given (before_head cards) ≤ written (before_head cards)
  pub heads_are : reading.heads ≡ count_by is_head cards
  pub stray_is : reading.stray ≡ strays given cards
  pub at_shelf : AtShelf reading.stage reading.shelf (runs_by is_control_card (before_head cards))
  pub at_stage : AtStage reading.stage (front_of given cards) cards reading.jobs

-- a reading from which jobs were taken, with these jobs in front of those that it keeps
abbrev pub put_back : List JobView → Reading → Reading
put_back taken reading = record reading { jobs = taken ++ reading.jobs }

-- a count of stray cards, with a card that is one unless it is blank
abbrev pub with_stray : ℕ → List ℕ → ℕ
with_stray count card = if nat_lt 0 (length card) then min (count + 1) (2 ^ 32 - 1) else count

-- what a control card before the first head does, where this is the name of the library that it begins: with none, it may open an account, and is stray otherwise unless it is blank
abbrev pub Does : Reading → Reading → List ℕ → Option (List ℕ) → Type 0
Does old new card (Some name) = (library : OpenLibrary) × (new.stage ≡ Library library) × IsOpenLibrary name [] library × (new.accounts ≡ old.accounts) × (new.stray ≡ old.stray)
Does old new card None = (opens : Bool) × (new.stage ≡ Front) × (new.accounts ≡ (if old.given then old.accounts else with_account old.accounts (account_on card)))
    × (length new.accounts ≡ length old.accounts + (if opens then 1 else 0)) × (opens ≡ true → IsSome (account_on card)) × (new.stray ≡ (if opens then old.stray else with_stray old.stray card))

-- a control card before the first head is taken, once the library under way is ended
pub record TakesControl (old new : Reading) (card : List ℕ) : Type 0 where
  pub given : new.given ≡ old.given
  pub shelf : new.shelf ≡ old.shelf
  pub jobs : new.jobs ≡ old.jobs
  pub heads : new.heads ≡ old.heads
  pub does : Does old new card (free_name old.shelf card)

-- where a call ends well, it has read a card: the reading of any cards became that of these and this one behind them, whatever jobs were taken
abbrev pub TakesCard : {A E : Type 0} → Reading → Reading → List ℕ → Result A E → Type 0
TakesCard old new card result =
    (given : Option (List Account)) (taken : List JobView) (cards : List (List ℕ)) → length cards < 2 ^ 31 → IsReading given (put_back taken old) cards → OnOk result (IsReading given (put_back taken new) (cards ++ card ∷ []))

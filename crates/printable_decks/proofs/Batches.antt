-- The cards of a batch's jobs are texts.
use Rattle.std.proofs.Common.{◌≡◌, ℕ, ◌+◌, List, [], ◌∷◌, map, length, take, get_or, All, Bool, true, false, ◌&&◌, ◌||◌, not, cond, nat_lt, if◌then◌else◌, refl, Option, Some, None, Result, Ok, Err}
use Rattle.std.specs.Prelude.{⊤}
use Rattle.std.specs.List.{find, list_all, list_any, before_first, after_first}
use Rattle.std.specs.Option.{option_map}
use Rattle.std.specs.Str.{bytes_eq}
use Rattle.std.proofs.lemmas.List.Elements.{All-nil, All-cons, All-head, All-tail, All-take, All-drop, All-map}
use Rattle.deck_reader.specs.declared.batch.Account.{Account}
use Rattle.deck_reader.specs.declared.batch.Flaw.{Flaw}
use Rattle.deck_reader.specs.declared.batch.Flaw.TheVariants as flaws
use Rattle.deck_reader.specs.declared.forms.JobCard.{JobCard}
use Rattle.deck_reader.specs.declared.options.Settings.{Settings}
use Rattle.deck_reader.specs.LibraryView.{LibraryView, Shelved}
use Rattle.deck_reader.specs.JobView.{JobView}
use Rattle.deck_reader.specs.Cards.{cards}
use Rattle.deck_reader.specs.CardFlaws.{is_long, is_foul}
use Rattle.deck_reader.specs.Forms.{is_allowed, is_data}
use Rattle.deck_reader.specs.JobCards.{job_card}
use Rattle.deck_reader.specs.Options.{is_in_range, unset}
use Rattle.deck_reader.specs.Batch.{Front, Run, runs, body, before_head, is_ill, shelved, libraries_in, library_there, library_found, library_named, library_for, unread, flawed, job_on, job_by, job_from, job_of, jobs_of, front_of, account_for, batch_with}
use Rattle.algolw_typing.specs.Kept.{NothingForgotten}
use Rattle.algolw_meaning.specs.Meaning.{job_library}
use Rattle.printed_lines.specs.Texts.{IsText}
use Rattle.printed_lines.proofs.Texts.{text_of}
use Rattle.printable_decks.specs.Laws.{CardsHold, JobHolds, BatchesPrintTexts}
use Rattle.printable_decks.proofs.Jobs.{jobs_print_texts}

-- ---- cards without a byte that isn't allowed

neither : (a b : Bool) → a || b ≡ false → (a ≡ false) × (b ≡ false)
neither true b h = absurd (cc h)
neither false b h = (refl, h)

is_not : (b : Bool) → not b ≡ false → b ≡ true
is_not true h = refl
is_not false h = absurd (cc h)

fair : (xs : List (List ℕ)) → list_any is_foul xs ≡ false → All IsText xs
fair [] h = All-nil IsText
fair (card ∷ xs) h =
    let parts = neither (is_foul card) (list_any is_foul xs) h in
    All-cons IsText card xs (text_of card (is_not (list_all is_allowed card) parts.0)) (fair xs parts.1)

-- ---- libraries

abbrev pub ViewHolds : Option LibraryView → Type 0
ViewHolds library = CardsHold (option_map (λ l. l.cards) library)

abbrev pub ShelvedHolds : Shelved → Type 0
ShelvedHolds kept = ViewHolds kept.library

shelved_holds : (library : LibraryView) → ShelvedHolds (shelved library)
shelved_holds library = go (is_ill library) (λ e. fair library.cards (neither (list_any is_long library.cards) (list_any is_foul library.cards) (neither (nat_lt 500 (length library.cards)) (list_any is_long library.cards || list_any is_foul library.cards) e).1).1)
  where
    go : (b : Bool) → (b ≡ false → All IsText library.cards) → ViewHolds (if b then None else Some library)
    go true h = tt
    go false h = h refl

pub shelf_holds : (libraries : List LibraryView) → All ShelvedHolds (map shelved libraries)
shelf_holds libraries = All-map ShelvedHolds shelved libraries (λ k d l. shelved_holds (get_or libraries k d))

abbrev FoundHolds : Result (Option LibraryView) Flaw → Type 0
FoundHolds (Ok library) = ViewHolds library
FoundHolds (Err flaw) = ⊤

there_holds : (library : Option LibraryView) → ViewHolds library → FoundHolds (library_there library)
there_holds None h = tt
there_holds (Some library) h = h

find_holds : (test : Shelved → Bool) (shelf : List Shelved) → All ShelvedHolds shelf → FoundHolds (library_found (find test shelf))
find_holds test [] h = tt
find_holds test (kept ∷ shelf) h = go (test kept) (find_holds test shelf (All-tail ShelvedHolds kept shelf h))
  where
    go : (b : Bool) → FoundHolds (library_found (find test shelf)) → FoundHolds (library_found (cond b (Some kept) (find test shelf)))
    go true k = there_holds kept.library (All-head ShelvedHolds kept shelf h)
    go false k = k

named_holds : (shelf : List Shelved) (name : Option (List ℕ)) → All ShelvedHolds shelf → FoundHolds (library_named shelf name)
named_holds shelf None h = tt
named_holds shelf (Some name) h = find_holds (λ l. bytes_eq l.name name) shelf h

for_holds : (shelf : List Shelved) (card : Option JobCard) → All ShelvedHolds shelf → FoundHolds (library_for shelf card)
for_holds shelf None h = tt
for_holds shelf (Some card) h = named_holds shelf card.settings.library h

-- ---- jobs

unread_holds : (number count : ℕ) (flaw : Flaw) → JobHolds (unread number count flaw)
unread_holds number count flaw = record { library = tt; deck = All-nil IsText; data_cards = All-nil IsText }

flawed_holds : (number count : ℕ) (card : JobCard) (account : Option ℕ) (settings : Settings) (flaw : Flaw) → JobHolds (flawed number count card account settings flaw)
flawed_holds number count card account settings flaw = record { library = tt; deck = All-nil IsText; data_cards = All-nil IsText }

module _ (number count : ℕ) (library : Result (Option LibraryView) Flaw) (deck rest : List (List ℕ)) (found : FoundHolds library) where
  on_holds : (card : JobCard) (account : Option ℕ) (l : Result (Option LibraryView) Flaw) → FoundHolds l → All IsText deck → All IsText rest → JobHolds (job_on number count card account l deck rest)
  on_holds card None l f h k = flawed_holds number count card None card.settings flaws.AccountUnknown
  on_holds card (Some account) (Err flaw) f h k = flawed_holds number count card (Some account) card.settings flaw
  on_holds card (Some account) (Ok library) f h k = record { library = f; deck = h; data_cards = k }

  by_holds : (card : Option JobCard) (account : Option ℕ) → All IsText deck → All IsText rest → JobHolds (job_by number count card account library deck rest)
  by_holds None account h k = unread_holds number count flaws.JobCard
  by_holds (Some card) account h k = go (is_in_range card.settings) (nat_lt 2000 count)
    where
      go : (a b : Bool) → JobHolds (if a then (if b then flawed number count card account card.settings flaws.TooManyCards else job_on number count card account library deck rest) else flawed number count card account unset flaws.NumberOutOfRange)
      go true true = flawed_holds number count card account card.settings flaws.TooManyCards
      go true false = on_holds card account library found h k
      go false b = flawed_holds number count card account unset flaws.NumberOutOfRange

  from_holds : (long foul : Bool) (card : Option JobCard) (account : Option ℕ) → (foul ≡ false → All IsText deck × All IsText rest) → JobHolds (job_from number count long foul card account library deck rest)
  from_holds true foul card account h = unread_holds number count flaws.CardTooLong
  from_holds false true card account h = unread_holds number count flaws.ByteNotAllowed
  from_holds false false card account h = by_holds card account (h refl).0 (h refl).1

job_holds : (front : Front) (number : ℕ) (head : List ℕ) (behind : List (List ℕ)) → All ShelvedHolds front.shelf → JobHolds (job_of front number head behind)
job_holds front number head behind shelf =
    from_holds number (length behind + 1) (library_for front.shelf (job_card head)) (before_first is_data behind) (after_first is_data behind) (for_holds front.shelf (job_card head) shelf)
    (list_any is_long (head ∷ behind)) (list_any is_foul (head ∷ behind)) (job_card head) (account_for front.accounts (job_card head))
    (λ e. let all : All IsText behind = All-tail IsText head behind (fair (head ∷ behind) e) in (All-take IsText _ behind all, All-drop IsText _ behind all))

pub jobs_hold : (front : Front) (number : ℕ) (rs : List Run) → All ShelvedHolds front.shelf → All JobHolds (jobs_of front number rs)
jobs_hold front number [] shelf = All-nil JobHolds
jobs_hold front number (run ∷ rs) shelf = All-cons JobHolds (job_of front number run.head (body run)) (jobs_of front (number + 1) rs) (job_holds front number run.head (body run) shelf) (jobs_hold front (number + 1) rs shelf)

pub batches_print_texts : NothingForgotten → BatchesPrintTexts
batches_print_texts kept given bytes k d l =
    let front = front_of given (cards bytes) in
    jobs_print_texts kept _ (jobs_hold front 1 (runs (cards bytes)) (shelf_holds (libraries_in (before_head (cards bytes)))) k d l)

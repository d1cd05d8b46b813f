-- The jobs and accounts of a batch: their names are texts, and a job without a flaw is within the limits.
use Rattle.std.proofs.Common.{◌≡◌, ℕ, ◌+◌, ◌-◌, ◌≤◌, List, [], ◌∷◌, length, drop, get_or, All, Bool, true, false, ◌&&◌, ◌||◌, nat_le, nat_lt, if◌then◌else◌, codes, refl, arith, Option, Some, None, Result, Ok, Err}
use Rattle.std.specs.Prelude.{⊤}
use Rattle.std.specs.List.{list_all, list_any, before_first, after_first}
use Rattle.std.proofs.lemmas.Bool.{ltb-false}
use Rattle.std.proofs.lemmas.List.Elements.{All-nil, All-cons, All-map}
use Rattle.std.proofs.lemmas.List.Sums.{AllPass-from_list_all}
use Rattle.deck_reader.specs.declared.batch.Flaw.{Flaw}
use Rattle.deck_reader.specs.declared.batch.Flaw.TheVariants as flaws
use Rattle.deck_reader.specs.declared.forms.JobCard.{JobCard}
use Rattle.deck_reader.specs.declared.options.Settings.{Settings}
use Rattle.deck_reader.specs.LibraryView.{LibraryView}
use Rattle.deck_reader.specs.JobView.{JobView}
use Rattle.deck_reader.specs.CardFlaws.{is_long, is_foul}
use Rattle.deck_reader.specs.Forms.{is_small, is_letter, is_digit, capital, folded, is_name, is_head, is_data, stripped, name_of}
use Rattle.deck_reader.specs.JobCards.{job_with, job_of_fields, fields, job_card}
use Rattle.deck_reader.specs.Options.{is_in_range, unset, settings_of, steps_of, lines_of, is_up_to}
use Rattle.deck_reader.specs.Batch.{Front, Run, body, library_for, unread, flawed, job_on, job_by, job_from, job_of, jobs_of, account_for}
use Rattle.printed_lines.specs.Texts.{IsPrintable, IsText}
use Rattle.printed_lines.proofs.Texts.{text_of}
use Rattle.printable_programs.proofs.Tests.{and_of, either_test, range_of}
use Rattle.section_forms.specs.Laws.{IsFit}

pub record IsJob (job : JobView) : Type 0 where
  pub name : IsText job.name
  pub account_name : IsText job.account_name
  pub fit : job.flaw ≡ None → IsFit job

-- ---- names

capital_at : (b : Bool) (c : ℕ) → IsPrintable c → (b ≡ true → 97 ≤ c) → IsPrintable (if b then c - 32 else c)
capital_at true c h k = (omega (arith, k refl), omega (arith, h.1))
capital_at false c h k = h

printable_within : (least most c : ℕ) → 32 ≤ least → most ≤ 126 → nat_le least c && nat_le c most ≡ true → IsPrintable c
printable_within least most c a b h = let r = range_of least most c h in (omega (arith, a, r.0), omega (arith, b, r.1))

letter_printable : (c : ℕ) → is_letter c || is_digit c ≡ true → IsPrintable c
letter_printable c h =
    either_test (is_letter c) (is_digit c) h
    (λ k. either_test (nat_le 65 c && nat_le c 90) (is_small c) k (printable_within 65 90 c (omega arith) (omega arith)) (printable_within 97 122 c (omega arith) (omega arith)))
    (printable_within 48 57 c (omega arith) (omega arith))

capital_printable : (c : ℕ) → is_letter c || is_digit c ≡ true → IsPrintable (capital c)
capital_printable c h = capital_at (is_small c) c (letter_printable c h) (λ e. (range_of 97 122 c e).0)

or_first : (a b : Bool) → a ≡ true → a || b ≡ true
or_first true b h = refl
or_first false b h = absurd (cc h)

folded_text : (s : List ℕ) → list_all (λ d. is_letter d || is_digit d) s ≡ true → IsText (folded s)
folded_text s h = record { each = All-map IsPrintable capital s (λ k d l. capital_printable (get_or s k d) (AllPass-from_list_all (λ d. is_letter d || is_digit d) s h k d l)) }

all_letters : (c : ℕ) (cs : List ℕ) → is_letter c ≡ true → list_all (λ d. is_letter d || is_digit d) cs ≡ true → list_all (λ d. is_letter d || is_digit d) (c ∷ cs) ≡ true
all_letters c cs h k = go (is_letter c || is_digit c) (or_first (is_letter c) (is_digit c) h)
  where
    go : (b : Bool) → b ≡ true → b && list_all (λ d. is_letter d || is_digit d) cs ≡ true
    go true e = k
    go false e = absurd (cc e)

name_text : (s : List ℕ) → is_name s ≡ true → IsText (folded s)
name_text [] h = absurd (cc h)
name_text (c ∷ cs) h =
    let parts = and_of (is_letter c) (nat_le (length cs) 7 && list_all (λ d. is_letter d || is_digit d) cs) h in
    let rest = and_of (nat_le (length cs) 7) (list_all (λ d. is_letter d || is_digit d) cs) parts.1 in
    folded_text (c ∷ cs) (all_letters c cs parts.0 rest.1)

-- a text, where there is one
abbrev pub MaybeText : Option (List ℕ) → Type 0
MaybeText None = ⊤
MaybeText (Some text) = IsText text

pub name_of_text : (s : List ℕ) → MaybeText (name_of s)
name_of_text s = go (is_name s) (λ e. name_text s e)
  where
    go : (b : Bool) → (b ≡ true → IsText (folded s)) → MaybeText (if b then Some (folded s) else None)
    go true h = h refl
    go false h = tt

abbrev CardHolds : Option JobCard → Type 0
CardHolds None = ⊤
CardHolds (Some card) = IsText card.name × IsText card.account

with_holds : (name account : Option (List ℕ)) (settings : Option Settings) → MaybeText name → MaybeText account → CardHolds (job_with name account settings)
with_holds None account settings h k = tt
with_holds (Some name) None settings h k = tt
with_holds (Some name) (Some account) None h k = tt
with_holds (Some name) (Some account) (Some settings) h k = (h, k)

fields_hold : (fs : List (List ℕ)) → CardHolds (job_of_fields fs)
fields_hold [] = tt
fields_hold (name ∷ []) = tt
fields_hold (name ∷ account ∷ settings) = with_holds (name_of (stripped name)) (name_of (stripped account)) (settings_of settings) (name_of_text (stripped name)) (name_of_text (stripped account))

card_holds : (card : List ℕ) → CardHolds (job_card card)
card_holds card = go (is_head card) (fields_hold (fields (drop 4 card)))
  where
    go : (b : Bool) → CardHolds (job_of_fields (fields (drop 4 card))) → CardHolds (if b then job_of_fields (fields (drop 4 card)) else None)
    go true h = h
    go false h = tt

-- ---- jobs

unread_is : (number count : ℕ) (flaw : Flaw) → IsJob (unread number count flaw)
unread_is number count flaw = record { name = text_of (codes "?") refl; account_name = text_of (codes "?") refl; fit = λ e. absurd (cc e) }

flawed_is : (number count : ℕ) (card : JobCard) (account : Option ℕ) (settings : Settings) (flaw : Flaw) → IsText card.name × IsText card.account → IsJob (flawed number count card account settings flaw)
flawed_is number count card account settings flaw h = record { name = h.0; account_name = h.1; fit = λ e. absurd (cc e) }

most_of : (most n : ℕ) → is_up_to most n ≡ true → n ≤ most
most_of most n h = (range_of 1 most n h).1

module _ (number count : ℕ) (library : Result (Option LibraryView) Flaw) (deck rest : List (List ℕ)) where
  on_is : (card : JobCard) (account : Option ℕ) (l : Result (Option LibraryView) Flaw) → IsText card.name × IsText card.account → count ≤ 2000 → steps_of card.settings ≤ 10000000 → lines_of card.settings ≤ 500 → IsJob (job_on number count card account l deck rest)
  on_is card None l h a b c = flawed_is number count card None card.settings flaws.AccountUnknown h
  on_is card (Some account) (Err flaw) h a b c = flawed_is number count card (Some account) card.settings flaw h
  on_is card (Some account) (Ok library) h a b c = record { name = h.0; account_name = h.1; fit = λ e. record { cards = a; steps = b; lines = c } }

  by_is : (card : Option JobCard) (account : Option ℕ) → CardHolds card → IsJob (job_by number count card account library deck rest)
  by_is None account h = unread_is number count flaws.JobCard
  by_is (Some card) account h = go (is_in_range card.settings) (nat_lt 2000 count) (λ e. and_of (is_up_to 10000000 (steps_of card.settings)) (is_up_to 500 (lines_of card.settings)) e) (λ e. ltb-false 2000 count e)
    where
      go : (a b : Bool) → (a ≡ true → (is_up_to 10000000 (steps_of card.settings) ≡ true) × (is_up_to 500 (lines_of card.settings) ≡ true)) → (b ≡ false → count ≤ 2000)
          → IsJob (if a then (if b then flawed number count card account card.settings flaws.TooManyCards else job_on number count card account library deck rest) else flawed number count card account unset flaws.NumberOutOfRange)
      go true true p q = flawed_is number count card account card.settings flaws.TooManyCards h
      go true false p q = on_is card account library h (q refl) (most_of 10000000 (steps_of card.settings) (p refl).0) (most_of 500 (lines_of card.settings) (p refl).1)
      go false b p q = flawed_is number count card account unset flaws.NumberOutOfRange h

  from_is : (long foul : Bool) (card : Option JobCard) (account : Option ℕ) → CardHolds card → IsJob (job_from number count long foul card account library deck rest)
  from_is true foul card account h = unread_is number count flaws.CardTooLong
  from_is false true card account h = unread_is number count flaws.ByteNotAllowed
  from_is false false card account h = by_is card account h

pub jobs_are : (front : Front) (number : ℕ) (rs : List Run) → All IsJob (jobs_of front number rs)
jobs_are front number [] = All-nil IsJob
jobs_are front number (run ∷ rs) =
    All-cons IsJob (job_of front number run.head (body run)) (jobs_of front (number + 1) rs)
    (from_is number (length (body run) + 1) (library_for front.shelf (job_card run.head)) (before_first is_data (body run)) (after_first is_data (body run))
    (list_any is_long (run.head ∷ body run)) (list_any is_foul (run.head ∷ body run)) (job_card run.head) (account_for front.accounts (job_card run.head)) (card_holds run.head))
    (jobs_are front (number + 1) rs)

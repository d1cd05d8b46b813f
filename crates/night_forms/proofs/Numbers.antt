-- Numbers put on sections and taken off, and the numbers of a night's jobs.
use Rattle.std.proofs.Common.{◌≡◌, ℕ, ◌+◌, Bool, true, false, nat_lt, if◌then◌else◌, List, [], ◌∷◌, ◌++◌, length, Option, Some, None, Result, Ok, Err, codes, decimal, refl, subst, arith, length-append}
use Rattle.std.specs.List.{after_first, before_first, list_any}
use Rattle.std.proofs.lemmas.List.{drop_at}
use Rattle.deck_reader.specs.declared.batch.Flaw.{Flaw}
use Rattle.deck_reader.specs.declared.batch.Flaw.TheVariants as flaws
use Rattle.deck_reader.specs.declared.forms.JobCard.{JobCard}
use Rattle.deck_reader.specs.LibraryView.{LibraryView}
use Rattle.deck_reader.specs.JobView.{JobView}
use Rattle.deck_reader.specs.CardFlaws.{is_foul, is_long}
use Rattle.deck_reader.specs.Forms.{is_data}
use Rattle.deck_reader.specs.JobCards.{job_card}
use Rattle.deck_reader.specs.Options.{is_in_range, unset}
use Rattle.deck_reader.specs.Batch.{Front, Run, account_for, body, flawed, job_by, job_from, job_of, job_on, jobs_of, library_for}
use Rattle.algolw_meaning.specs.Texts.{line}
use Rattle.night_forms.specs.Joining.{behind}
use Rattle.night_forms.specs.Laws.{NumberComesOff, NumbersComeOff}

-- ---- taken off

pub number_comes_off : NumberComesOff
number_comes_off number rest =
    let five : length (line [] ++ codes "JOB ") ≡ 5 = refl in
    let long : length (line [] ++ codes "JOB " ++ decimal number) ≡ 5 + length (decimal number) = omega (arith, five, length-append (line [] ++ codes "JOB ") (decimal number)) in
    drop_at (line [] ++ codes "JOB " ++ decimal number) rest (5 + length (decimal number)) long

pub numbers_come_off : NumbersComeOff
numbers_come_off number [] = refl
numbers_come_off number (rest ∷ rests) = λ i. number_comes_off number rest i ∷ numbers_come_off (number + 1) rests i

-- ---- the numbers of jobs

-- these jobs have the numbers from here on
abbrev pub AreFrom : ℕ → List JobView → Type 0
AreFrom number [] = Unit {0}
AreFrom number (job ∷ jobs) = (job.number ≡ number) × AreFrom (number + 1) jobs

module _ (number count : ℕ) (library : Result (Option LibraryView) Flaw) (deck rest : List (List ℕ)) where
  number_on : (card : JobCard) (account : Option ℕ) (l : Result (Option LibraryView) Flaw) → (job_on number count card account l deck rest).number ≡ number
  number_on card None l = refl
  number_on card (Some account) (Err flaw) = refl
  number_on card (Some account) (Ok library) = refl

  number_by : (card : Option JobCard) (account : Option ℕ) → (job_by number count card account library deck rest).number ≡ number
  number_by None account = refl
  number_by (Some card) account = go (is_in_range card.settings) (nat_lt 2000 count)
    where
      go : (a b : Bool)
          → (if a then (if b then flawed number count card account card.settings flaws.TooManyCards else job_on number count card account library deck rest) else flawed number count card account unset flaws.NumberOutOfRange).number ≡ number
      go true true = refl
      go true false = number_on card account library
      go false b = refl

  number_from : (long foul : Bool) (card : Option JobCard) (account : Option ℕ) → (job_from number count long foul card account library deck rest).number ≡ number
  number_from true foul card account = refl
  number_from false true card account = refl
  number_from false false card account = number_by card account

number_of : (front : Front) (number : ℕ) (head : List ℕ) (behind : List (List ℕ)) → (job_of front number head behind).number ≡ number
number_of front number head behind =
    number_from number (length behind + 1) (library_for front.shelf (job_card head)) (before_first is_data behind) (after_first is_data behind)
    (list_any is_long (head ∷ behind)) (list_any is_foul (head ∷ behind)) (job_card head) (account_for front.accounts (job_card head))

pub jobs_are_from : (front : Front) (number : ℕ) (runs : List Run) → AreFrom number (jobs_of front number runs)
jobs_are_from front number [] = tt
jobs_are_from front number (run ∷ runs) = (number_of front number run.head (body run), jobs_are_from front (number + 1) runs)

pub from_behind : (number : ℕ) (earlier jobs : List JobView) → AreFrom number (earlier ++ jobs) → AreFrom (number + length earlier) jobs
from_behind number [] jobs are = let e : number ≡ number + 0 = omega arith in subst (λ (n : ℕ). AreFrom n jobs) e are
from_behind number (job ∷ earlier) jobs are =
    let e : number + 1 + length earlier ≡ number + length (job ∷ earlier) = omega arith in
    subst (λ (n : ℕ). AreFrom n jobs) e (from_behind (number + 1) earlier jobs are.1)

pub from_front : (number : ℕ) (jobs more : List JobView) → AreFrom number (jobs ++ more) → AreFrom number jobs
from_front number [] more are = tt
from_front number (job ∷ jobs) more are = (are.0, from_front (number + 1) jobs more are.1)

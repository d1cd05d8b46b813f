-- The deck of each job of a batch stands before its library.
use Rattle.std.proofs.Common.{◌≡◌, ℕ, zero, suc, ◌+◌, ◌≤◌, ◌||◌, Bool, true, false, cond, nat_lt, List, [], ◌∷◌, length, take, Option, Some, None, Result, Ok, Err, refl, ap, ◌∙◌, arith}
use Rattle.std.specs.Prelude.{All}
use Rattle.std.specs.List.{list_any, before_first, position_or_len}
use Rattle.std.proofs.lemmas.Bool.Decides.{nat_tests}
use Rattle.std.proofs.lemmas.List.{length-take}
use Rattle.std.proofs.lemmas.List.Elements.{All-cons, All-nil}
use Rattle.deck_reader.specs.declared.batch.Account.{Account}
use Rattle.deck_reader.specs.declared.batch.Flaw.{Flaw}
use Rattle.deck_reader.specs.declared.batch.Flaw.TheVariants as flaws
use Rattle.deck_reader.specs.declared.forms.JobCard.{JobCard}
use Rattle.deck_reader.specs.Batch.{Front, Run, account_for, batch_with, body, flawed, front_of, job_from, job_of, job_on, jobs_of, library_for, runs}
use Rattle.deck_reader.specs.CardFlaws.{is_foul, is_long}
use Rattle.deck_reader.specs.Cards.{cards}
use Rattle.deck_reader.specs.Forms.{is_data}
use Rattle.deck_reader.specs.JobCards.{job_card}
use Rattle.deck_reader.specs.JobView.{JobView}
use Rattle.deck_reader.specs.LibraryView.{LibraryView}
use Rattle.deck_reader.specs.Options.{is_in_range, unset}
use Rattle.algolw_scanner.specs.Laws.{IsDeck}
use Rattle.algolw_meaning.specs.Meaning.{job_library}
use Rattle.deck_programs.specs.Laws.{BatchesAreNeverWrong, JobsStandBefore, StandsBefore}
use Rattle.deck_programs.proofs.Jobs.{jobs_are_never_wrong}

-- ---- one job

abbrev Stands : JobView → Type 0
Stands job = StandsBefore (job_library job) job.deck

abbrev IsShort : List (List ℕ) → Type 0
IsShort deck = IsDeck deck × (length deck ≤ 1999)

abbrev Found : Type 0
Found = Result (Option LibraryView) Flaw

on_job : (number count : ℕ) (card : JobCard) (account : Option ℕ) (library : Found) (deck given : List (List ℕ)) → IsShort deck → Stands (job_on number count card account library deck given)
on_job number count card None library deck given is = tt
on_job number count card (Some account) (Err flaw) deck given is = tt
on_job number count card (Some account) (Ok None) deck given is = tt
on_job number count card (Some account) (Ok (Some library)) deck given is = is

on_card : (ranged many : Bool) (number count : ℕ) (card : JobCard) (account : Option ℕ) (library : Found) (deck given : List (List ℕ)) → (many ≡ false → IsShort deck)
    → Stands (cond ranged (cond many (flawed number count card account card.settings flaws.TooManyCards) (job_on number count card account library deck given)) (flawed number count card account unset flaws.NumberOutOfRange))
on_card false many number count card account library deck given is = tt
on_card true true number count card account library deck given is = tt
on_card true false number count card account library deck given is = on_job number count card account library deck given (is refl)

from : (long foul : Bool) (number count : ℕ) (card : Option JobCard) (account : Option ℕ) (library : Found) (deck given : List (List ℕ)) → (long ≡ false → foul ≡ false → nat_lt 2000 count ≡ false → IsShort deck)
    → Stands (job_from number count long foul card account library deck given)
from true foul number count card account library deck given is = tt
from false true number count card account library deck given is = tt
from false false number count None account library deck given is = tt
from false false number count (Some card) account library deck given is =
    on_card (is_in_range card.settings) (nat_lt 2000 count) number count card account library deck given (is refl refl)

-- ---- its deck

neither : (a b : Bool) → (a || b) ≡ false → (a ≡ false) × (b ≡ false)
neither true b h = cc
neither false b h = (refl, h)

none_taken : (p : List ℕ → Bool) (n : ℕ) (cs : List (List ℕ)) → list_any p cs ≡ false → list_any p (take n cs) ≡ false
none_taken p zero cs h = refl
none_taken p (suc n) [] h = refl
none_taken p (suc n) (c ∷ cs) h =
    let parts = neither (p c) (list_any p cs) h in
    ap (λ (b : Bool). b || list_any p (take n cs)) parts.0 ∙ none_taken p n cs parts.1

few_taken : (n : ℕ) (cs : List (List ℕ)) → nat_lt 2000 (length cs + 1) ≡ false → length (take n cs) ≤ 1999
few_taken n cs h = let few : length cs + 1 ≤ 2000 = grind (arith, nat_tests) in omega (arith, length-take n cs)

short : (head : List ℕ) (behind : List (List ℕ)) → list_any is_long (head ∷ behind) ≡ false → list_any is_foul (head ∷ behind) ≡ false → nat_lt 2000 (length behind + 1) ≡ false
    → IsShort (before_first is_data behind)
short head behind long foul many =
    let n = position_or_len is_data behind in
    let few = few_taken n behind many in (
      record {
        few = omega (arith, few);
        long = none_taken is_long n behind (neither (is_long head) (list_any is_long behind) long).1;
        foul = none_taken is_foul n behind (neither (is_foul head) (list_any is_foul behind) foul).1;
      },
      few,
    )

of_job : (front : Front) (number : ℕ) (head : List ℕ) (behind : List (List ℕ)) → Stands (job_of front number head behind)
of_job front number head behind =
    from (list_any is_long (head ∷ behind)) (list_any is_foul (head ∷ behind)) number (length behind + 1) (job_card head) (account_for front.accounts (job_card head)) (library_for front.shelf (job_card head)) _ _
    (short head behind)

-- ---- all of a batch

of_jobs : (front : Front) (number : ℕ) (rs : List Run) → All Stands (jobs_of front number rs)
of_jobs front number [] = All-nil Stands
of_jobs front number (run ∷ rs) = All-cons Stands (job_of front number run.head (body run)) (jobs_of front (number + 1) rs) (of_job front number run.head (body run)) (of_jobs front (number + 1) rs)

pub jobs_stand_before : JobsStandBefore
jobs_stand_before given bytes = of_jobs (front_of given (cards bytes)) 1 (runs (cards bytes))

pub batches_are_never_wrong : BatchesAreNeverWrong
batches_are_never_wrong given bytes k job less = jobs_are_never_wrong _ (jobs_stand_before given bytes k job less)

-- An open job, when one card more comes, and when it is closed.
use Rattle.std.proofs.Common.{◌≡◌, ℕ, ◌+◌, ◌-◌, ◌^◌, ◌<◌, ◌≤◌, min, Bool, true, false, cond, not, ◌&&◌, ◌||◌, nat_lt, nat_le, List, [], ◌∷◌, ◌++◌, length, Option, Some, None, Result, Ok, Err, unwrap_or, is_some, is_ok, refl, sym, ap, ◌∙◌, arith, inl, inr}
use Rattle.std.specs.List.{list_any, before_first, after_first}
use Rattle.std.specs.Option.{option_map}
use Rattle.std.proofs.lemmas.Bool.{cases_lt}
use Rattle.std.proofs.lemmas.Bool.Decides.{nat_tests}
use Rattle.std.proofs.lemmas.List.{length-append}
use Rattle.std.specs.declared.alloc.Global.{Global}
use Rattle.std.specs.declared.sync.Arc.{Arc}
use Rattle.deck_reader.specs.declared.batch.Flaw.{Flaw}
use Rattle.deck_reader.specs.declared.batch.Flaw.TheVariants as flaws
use Rattle.deck_reader.specs.declared.batch.Account.{Account}
use Rattle.deck_reader.specs.declared.forms.JobCard.{JobCard}
use Rattle.deck_reader.specs.declared.open_job.OpenJob.{OpenJob}
use Rattle.deck_reader.specs.declared.options.Settings.{Settings}
use Rattle.deck_reader.specs.Forms.{is_data}
use Rattle.deck_reader.specs.JobCards.{job_card, counted}
use Rattle.deck_reader.specs.Options.{unset, steps_of, lines_of, is_up_to, is_in_range, counted_settings}
use Rattle.deck_reader.specs.CardFlaws.{is_long, is_foul}
use Rattle.deck_reader.specs.Batch.{Front, job_view, flawed, job_on, job_from, job_of, account_for, library_for}
use Rattle.deck_reader.specs.LibraryView.{LibraryView, Shelved}
use Rattle.deck_reader.specs.Shelves.{lying}
use Rattle.deck_reader.specs.Reading.{card_may_run, may_run, Pushes, IsOpenJob, closed}
use Rattle.deck_reader.proofs.Firsts.{list_any-push, before-none, after-none, before-found, after-found, before-here, after-here, before-past, after-past}

both : (a b : Bool) → (a && b) ≡ true → (a ≡ true) × (b ≡ true)
both true b h = (refl, h)
both false b h = cc

neither : (a : Bool) → not a ≡ true → a ≡ false
neither true h = cc
neither false h = refl

first_false : (a b : Bool) → (a || b) ≡ false → a ≡ false
first_false true b h = cc
first_false false b h = refl

most : (n : ℕ) → nat_le n 2000 ≡ true → n ≤ 2000
most n h = grind (arith, nat_tests)

-- where a job may run with a card more, it might before
may_run_before : (old new : OpenJob) (card : List ℕ) → Pushes old new card → may_run new ≡ true → may_run old ≡ true
may_run_before old new card pushes h =
    let flags = both (not new.has_long && not new.has_foul) _ h in
    let clean = both (not new.has_long) (not new.has_foul) flags.0 in
    let rest = both (nat_le new.cards 2000) _ flags.1 in
    let long : old.has_long ≡ false = first_false old.has_long (is_long card) (sym pushes.long ∙ neither new.has_long clean.0) in
    let foul : old.has_foul ≡ false = first_false old.has_foul (is_foul card) (sym pushes.foul ∙ neither new.has_foul clean.1) in
    let few : new.cards ≤ 2000 = most new.cards rest.0 in
    let count : new.cards ≡ min (old.cards + 1) (2 ^ 32 - 1) = pushes.count in
    let fewer : old.cards ≤ 2000 = omega arith in
    let within : nat_le old.cards 2000 ≡ true = grind (arith, nat_tests) in
    ap (λ (b : Bool). (not b && not old.has_foul) && (nat_le old.cards 2000 && (is_some old.account && (is_ok old.library && card_may_run old.card)))) long
    ∙ ap (λ (b : Bool). not b && (nat_le old.cards 2000 && (is_some old.account && (is_ok old.library && card_may_run old.card)))) foul
    ∙ ap (λ (b : Bool). b && (is_some old.account && (is_ok old.library && card_may_run old.card))) within
    ∙ ap (λ (a : Option ℕ). is_some a && (is_ok old.library && card_may_run old.card)) (sym pushes.account)
    ∙ ap (λ (l : Result (Option (Arc LibraryView Global)) Flaw). is_some new.account && (is_ok l && card_may_run old.card)) (sym pushes.library)
    ∙ ap (λ (c : Option JobCard). is_some new.account && (is_ok new.library && card_may_run c)) (sym pushes.card_same)
    ∙ rest.1

deck_step : (begun here : Bool) (deck : List (List ℕ)) (behind : List (List ℕ)) (card : List ℕ) → list_any is_data behind ≡ begun → is_data card ≡ here → deck ≡ before_first is_data behind
    → cond (begun || here) deck (deck ++ card ∷ []) ≡ before_first is_data (behind ++ card ∷ [])
deck_step true here deck behind card is at same = same ∙ sym (before-found is_data behind card is)
deck_step false true deck behind card is at same = same ∙ before-none is_data behind is ∙ sym (before-here is_data behind card is at)
deck_step false false deck behind card is at same = ap (λ (xs : List (List ℕ)). xs ++ card ∷ []) (same ∙ before-none is_data behind is) ∙ sym (before-past is_data behind card is at)

data_step : (begun here : Bool) (data_cards : List (List ℕ)) (behind : List (List ℕ)) (card : List ℕ) → list_any is_data behind ≡ begun → is_data card ≡ here → data_cards ≡ after_first is_data behind
    → cond begun (data_cards ++ card ∷ []) data_cards ≡ after_first is_data (behind ++ card ∷ [])
data_step true here data_cards behind card is at same = ap (λ (xs : List (List ℕ)). xs ++ card ∷ []) same ∙ sym (after-found is_data behind card is)
data_step false true data_cards behind card is at same = same ∙ after-none is_data behind is ∙ sym (after-here is_data behind card is at)
data_step false false data_cards behind card is at same = same ∙ after-none is_data behind is ∙ sym (after-past is_data behind card is at)

-- an open job with a card more stands for the head and one card more
pub pushed : (front : Front) (number : ℕ) (head : List ℕ) (behind : List (List ℕ)) (old new : OpenJob) (card : List ℕ)
    → length behind < 2 ^ 31 → IsOpenJob front number head behind old → Pushes old new card → IsOpenJob front number head (behind ++ card ∷ []) new
pushed front number head behind old new card few at pushes =
    let count : new.cards ≡ min (old.cards + 1) (2 ^ 32 - 1) = pushes.count in
    let counted_before : old.cards ≡ length behind + 1 = at.count_is in
    record {
      number_is = pushes.number ∙ at.number_is;
      card_is = pushes.card_same ∙ at.card_is;
      account_is = pushes.account ∙ at.account_is;
      library_is = ap lying pushes.library ∙ at.library_is;
      count_is = omega (arith, length-append behind (card ∷ []));
      long_is = pushes.long ∙ ap (λ (b : Bool). b || is_long card) at.long_is ∙ sym (list_any-push is_long (head ∷ behind) card);
      foul_is = pushes.foul ∙ ap (λ (b : Bool). b || is_foul card) at.foul_is ∙ sym (list_any-push is_foul (head ∷ behind) card);
      in_data_is = pushes.in_data ∙ ap (λ (b : Bool). b || is_data card) at.in_data_is ∙ sym (list_any-push is_data behind card);
      deck_is = λ runs. pushes.deck runs ∙ deck_step old.in_data (is_data card) old.deck behind card (sym at.in_data_is) refl (at.deck_is (may_run_before old new card pushes runs));
      data_is = λ runs. pushes.data_cards runs ∙ data_step old.in_data (is_data card) old.data_cards behind card (sym at.in_data_is) refl (at.data_is (may_run_before old new card pushes runs));
    }

kept_by : (range over : Bool) (number count : ℕ) (card : JobCard) (account : Option ℕ) (library : Result (Option LibraryView) Flaw) (deck data_cards deck' data' : List (List ℕ))
    → (over ≡ false → range ≡ true → is_some account ≡ true → is_ok library ≡ true → (deck ≡ deck') × (data_cards ≡ data'))
    → cond range (cond over (flawed number count card account card.settings flaws.TooManyCards) (job_on number count card account library deck data_cards)) (flawed number count card account unset flaws.NumberOutOfRange)
    ≡ cond range (cond over (flawed number count card account card.settings flaws.TooManyCards) (job_on number count card account library deck' data')) (flawed number count card account unset flaws.NumberOutOfRange)
kept_by false over number count card account library deck data_cards deck' data' h = refl
kept_by true true number count card account library deck data_cards deck' data' h = refl
kept_by true false number count card None library deck data_cards deck' data' h = refl
kept_by true false number count card (Some a) (Err flaw) deck data_cards deck' data' h = refl
kept_by true false number count card (Some a) (Ok library) deck data_cards deck' data' h =
    let same = h refl refl refl refl in
    ap (λ (xs : List (List ℕ)). job_on number count card (Some a) (Ok library) xs data_cards) same.0 ∙ ap (λ (xs : List (List ℕ)). job_on number count card (Some a) (Ok library) deck' xs) same.1

all_true : (a b c d : Bool) → a ≡ true → b ≡ true → c ≡ true → d ≡ true → (a && (b && (c && d))) ≡ true
all_true a b c d h k l m =
    ap (λ (x : Bool). x && (b && (c && d))) h ∙ ap (λ (x : Bool). x && (c && d)) k ∙ ap (λ (x : Bool). x && d) l ∙ m

within : (count : ℕ) → nat_lt 2000 count ≡ false → nat_le count 2000 ≡ true
within count h = grind (arith, nat_tests)

-- the deck and the data count only where the job may run
kept : (number count : ℕ) (long foul : Bool) (card : Option JobCard) (account : Option ℕ) (library : Result (Option LibraryView) Flaw) (deck data_cards deck' data' : List (List ℕ))
    → (((not long && not foul) && (nat_le count 2000 && (is_some account && (is_ok library && card_may_run card)))) ≡ true → (deck ≡ deck') × (data_cards ≡ data'))
    → job_from number count long foul card account library deck data_cards ≡ job_from number count long foul card account library deck' data'
kept number count true foul card account library deck data_cards deck' data' h = refl
kept number count false true card account library deck data_cards deck' data' h = refl
kept number count false false None account library deck data_cards deck' data' h = refl
kept number count false false (Some card) account library deck data_cards deck' data' h =
    kept_by (is_in_range card.settings) (nat_lt 2000 count) number count card account library deck data_cards deck' data'
    (λ over range there ok. h (all_true (nat_le count 2000) (is_some account) (is_ok library) (is_in_range card.settings) (within count over) there ok range))

same_below : (n most : ℕ) → most ≤ 10000000 → nat_le n most ≡ true → min (2 ^ 32 - 1) n ≡ n
same_below n most small h = grind (arith, nat_tests)

range_of : (m n : ℕ) → n ≤ 10000000 → (nat_le 1 (min (2 ^ 32 - 1) m) && nat_le (min (2 ^ 32 - 1) m) n) ≡ (nat_le 1 m && nat_le m n)
range_of m n small = elim (cases_lt m (2 ^ 32 - 1)) [
  | inl h ↦ let same : min (2 ^ 32 - 1) m ≡ m = omega arith in ap (λ (k : ℕ). nat_le 1 k && nat_le k n) same
  | inr h ↦
      let top : min (2 ^ 32 - 1) m ≡ 2 ^ 32 - 1 = omega arith in
      let past : nat_le (2 ^ 32 - 1) n ≡ false = grind (arith, nat_tests) in
      let past' : nat_le m n ≡ false = grind (arith, nat_tests) in
      let some : nat_le 1 m ≡ true = grind (arith, nat_tests) in
      ap (λ (k : ℕ). nat_le 1 k && nat_le k n) top ∙ past ∙ sym (ap (λ (b : Bool). b && nat_le m n) some ∙ past')
]

-- whether a number is in range, also where it stops at the largest of 32 bits
option_range : (given : Option ℕ) (usual most : ℕ) → most ≤ 10000000
    → (nat_le 1 (unwrap_or (option_map (min (2 ^ 32 - 1)) given) usual) && nat_le (unwrap_or (option_map (min (2 ^ 32 - 1)) given) usual) most) ≡ (nat_le 1 (unwrap_or given usual) && nat_le (unwrap_or given usual) most)
option_range None usual most small = refl
option_range (Some n) usual most small = range_of n most small

option_same : (given : Option ℕ) (usual most : ℕ) → most ≤ 10000000 → (nat_le 1 (unwrap_or given usual) && nat_le (unwrap_or given usual) most) ≡ true → unwrap_or (option_map (min (2 ^ 32 - 1)) given) usual ≡ unwrap_or given usual
option_same None usual most small h = refl
option_same (Some n) usual most small h = same_below n most small (both (nat_le 1 n) (nat_le n most) h).1

range_same : (settings : Settings) → is_in_range (counted_settings settings) ≡ is_in_range settings
range_same settings =
    ap (λ (b : Bool). b && is_up_to 500 (lines_of (counted_settings settings))) (option_range settings.steps 10000 10000000 (omega arith))
    ∙ ap (λ (b : Bool). is_up_to 10000000 (steps_of settings) && b) (option_range settings.lines 100 500 (omega arith))

-- settings in range are the same for a job, also where their numbers stop at the largest of 32 bits
record IsSame (settings : Settings) : Type 0 where
  steps : steps_of (counted_settings settings) ≡ steps_of settings
  lines : lines_of (counted_settings settings) ≡ lines_of settings

same_in_range : (settings : Settings) → is_in_range settings ≡ true → IsSame settings
same_in_range settings is =
    let ranges = both (is_up_to 10000000 (steps_of settings)) (is_up_to 500 (lines_of settings)) is in
    record { steps = option_same settings.steps 10000 10000000 (omega arith) ranges.0; lines = option_same settings.lines 100 500 (omega arith) ranges.1 }

same_job : (settings : Settings) → IsSame settings → (number : ℕ) (card : JobCard) (account : Option ℕ) (library : Option LibraryView) (deck data_cards : List (List ℕ)) (count : ℕ) (flaw : Option Flaw)
    → job_view number card.name card.account account library deck data_cards (counted_settings settings) count flaw ≡ job_view number card.name card.account account library deck data_cards settings count flaw
same_job settings same number card account library deck data_cards count flaw =
    let view = job_view number card.name card.account account library deck data_cards settings count flaw in
    ap (λ (n : ℕ). record view { steps = n; lines = lines_of (counted_settings settings) }) same.steps
    ∙ ap (λ (n : ℕ). record view { steps = steps_of settings; lines = n }) same.lines

counted_by : (range over : Bool) (number count : ℕ) (card : JobCard) (account : Option ℕ) (library : Result (Option LibraryView) Flaw) (deck data_cards : List (List ℕ)) → is_in_range card.settings ≡ range
    → cond range (cond over (flawed number count (counted card) account (counted card).settings flaws.TooManyCards) (job_on number count (counted card) account library deck data_cards)) (flawed number count (counted card) account unset flaws.NumberOutOfRange)
    ≡ cond range (cond over (flawed number count card account card.settings flaws.TooManyCards) (job_on number count card account library deck data_cards)) (flawed number count card account unset flaws.NumberOutOfRange)
counted_by false over number count card account library deck data_cards is = refl
counted_by true true number count card account library deck data_cards is = same_job card.settings (same_in_range card.settings is) number card account None [] [] count (Some flaws.TooManyCards)
counted_by true false number count card None library deck data_cards is = same_job card.settings (same_in_range card.settings is) number card None None [] [] count (Some flaws.AccountUnknown)
counted_by true false number count card (Some a) (Err flaw) deck data_cards is = same_job card.settings (same_in_range card.settings is) number card (Some a) None [] [] count (Some flaw)
counted_by true false number count card (Some a) (Ok library) deck data_cards is = same_job card.settings (same_in_range card.settings is) number card (Some a) library deck data_cards count None

-- numbers that stop at the largest of 32 bits make the same job
counted_same : (number count : ℕ) (long foul : Bool) (card : Option JobCard) (account : Option ℕ) (library : Result (Option LibraryView) Flaw) (deck data_cards : List (List ℕ))
    → job_from number count long foul (option_map counted card) account library deck data_cards ≡ job_from number count long foul card account library deck data_cards
counted_same number count true foul card account library deck data_cards = refl
counted_same number count false true card account library deck data_cards = refl
counted_same number count false false None account library deck data_cards = refl
counted_same number count false false (Some card) account library deck data_cards =
    ap (λ (b : Bool). cond b (cond (nat_lt 2000 count) (flawed number count (counted card) account (counted card).settings flaws.TooManyCards) (job_on number count (counted card) account library deck data_cards)) (flawed number count (counted card) account unset flaws.NumberOutOfRange)) (range_same card.settings)
    ∙ counted_by (is_in_range card.settings) (nat_lt 2000 count) number count card account library deck data_cards refl

-- a library that is there is there wherever it lies
pub lying-ok : (library : Result (Option (Arc LibraryView Global)) Flaw) → is_ok library ≡ is_ok (lying library)
lying-ok (Ok library) = refl
lying-ok (Err flaw) = refl

-- an open job that is closed is the job that it stands for
pub closed_is : (front : Front) (number : ℕ) (head : List ℕ) (behind : List (List ℕ)) (job : OpenJob) → IsOpenJob front number head behind job → closed job ≡ job_of front number head behind
closed_is front number head behind job at =
    let deck = before_first is_data behind in
    let data_cards = after_first is_data behind in
    let long = list_any is_long (head ∷ behind) in
    let foul = list_any is_foul (head ∷ behind) in
    let may : Bool → Bool = λ ok. (not job.has_long && not job.has_foul) && (nat_le job.cards 2000 && (is_some job.account && (ok && card_may_run job.card))) in
    kept job.number job.cards job.has_long job.has_foul job.card job.account (lying job.library) job.deck job.data_cards deck data_cards
    (λ runs. let there : may_run job ≡ true = ap may (lying-ok job.library) ∙ runs in (at.deck_is there, at.data_is there))
    ∙ ap (λ (n : ℕ). job_from n job.cards job.has_long job.has_foul job.card job.account (lying job.library) deck data_cards) at.number_is
    ∙ ap (λ (n : ℕ). job_from number n job.has_long job.has_foul job.card job.account (lying job.library) deck data_cards) at.count_is
    ∙ ap (λ (b : Bool). job_from number (length behind + 1) b job.has_foul job.card job.account (lying job.library) deck data_cards) at.long_is
    ∙ ap (λ (b : Bool). job_from number (length behind + 1) long b job.card job.account (lying job.library) deck data_cards) at.foul_is
    ∙ ap (λ (c : Option JobCard). job_from number (length behind + 1) long foul c job.account (lying job.library) deck data_cards) at.card_is
    ∙ counted_same number (length behind + 1) long foul (job_card head) job.account (lying job.library) deck data_cards
    ∙ ap (λ (a : Option ℕ). job_from number (length behind + 1) long foul (job_card head) a (lying job.library) deck data_cards) at.account_is
    ∙ ap (λ (l : Result (Option LibraryView) Flaw). job_from number (length behind + 1) long foul (job_card head) (account_for front.accounts (job_card head)) l deck data_cards) at.library_is

-- numbers that stop at the largest of 32 bits leave the account and the library
pub account_for-counted : (accounts : List Account) (card : Option JobCard) → account_for accounts (option_map counted card) ≡ account_for accounts card
account_for-counted accounts None = refl
account_for-counted accounts (Some card) = refl

pub library_for-counted : (shelf : List Shelved) (card : Option JobCard) → library_for shelf (option_map counted card) ≡ library_for shelf card
library_for-counted shelf None = refl
library_for-counted shelf (Some card) = refl

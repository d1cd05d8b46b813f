-- The names on a night's titles are short words.
use Rattle.std.proofs.Common.{◌≡◌, ℕ, ◌+◌, ◌-◌, ◌≤◌, ◌==◌, ◌&&◌, ◌||◌, not, nat_le, nat_lt, if◌then◌else◌, Bool, true, false, List, [], ◌∷◌, All, length, drop, Option, Some, None, Result, Ok, Err, refl, ap, ◌∙◌, arith}
use Rattle.std.specs.Prelude.{⊤}
use Rattle.std.specs.List.{after_first, before_first, list_all, list_any}
use Rattle.std.proofs.lemmas.Bool.{leb-true}
use Rattle.std.proofs.lemmas.Bool.Decides.{nat_tests}
use Rattle.std.proofs.lemmas.List.{length-map}
use Rattle.std.proofs.lemmas.List.Elements.{All-cons, All-nil, All-weaker}
use Rattle.std.proofs.lemmas.List.Folds.{list_all-map}
use Rattle.std.proofs.lemmas.List.Sums.{AllPass-from_list_all, list_all-from_AllPass}
use Rattle.deck_reader.specs.declared.batch.Flaw.{Flaw}
use Rattle.deck_reader.specs.declared.batch.Flaw.TheVariants as flaws
use Rattle.deck_reader.specs.declared.forms.JobCard.{JobCard}
use Rattle.deck_reader.specs.declared.options.Settings.{Settings}
use Rattle.deck_reader.specs.LibraryView.{LibraryView}
use Rattle.deck_reader.specs.CardFlaws.{is_foul, is_long}
use Rattle.deck_reader.specs.Cards.{cards}
use Rattle.deck_reader.specs.Forms.{capital, folded, is_data, is_digit, is_head, is_letter, is_name, is_small, name_of, stripped}
use Rattle.deck_reader.specs.JobCards.{fields, job_card, job_of_fields, job_with}
use Rattle.deck_reader.specs.Options.{is_in_range, settings_of, unset}
use Rattle.deck_reader.specs.Batch.{Front, Run, account_for, body, flawed, front_of, job_by, job_from, job_of, job_on, jobs_of, library_for, runs, unread}
use Rattle.listing_parts.proofs.Tests.{and_left, and_right}
use Rattle.night_forms.specs.Joining.{IsNamed, IsShortWord, is_word}
use Rattle.night_forms.specs.Laws.{JobsAreNamed}

-- ---- capitals and digits

either : {N : Type 0} (a b : Bool) → a || b ≡ true → (a ≡ true → N) → (b ≡ true → N) → N
either true b h f g = f refl
either false b h f g = g h

least : (n most c : ℕ) → nat_le n c && nat_le c most ≡ true → n ≤ c
least n most c h = leb-true n c (and_left (nat_le n c) (nat_le c most) h)

letter_least : (c : ℕ) → is_letter c || is_digit c ≡ true → 48 ≤ c
letter_least c h =
    either (is_letter c) (is_digit c) h
    (λ k. either (nat_le 65 c && nat_le c 90) (is_small c) k (λ e. let l = least 65 90 c e in omega (arith, l)) (λ e. let l = least 97 122 c e in omega (arith, l)))
    (least 48 57 c)

lowered : (b : Bool) (c : ℕ) → 48 ≤ c → (b ≡ true → 97 ≤ c) → 48 ≤ (if b then c - 32 else c)
lowered true c h k = let l = k refl in omega (arith, l)
lowered false c h k = h

visible : (c : ℕ) → 48 ≤ c → (not (c == 32) && not (c == 10)) ≡ true
visible c h = grind (arith, nat_tests)

capital_visible : (c : ℕ) → is_letter c || is_digit c ≡ true → (not (capital c == 32) && not (capital c == 10)) ≡ true
capital_visible c h = visible (capital c) (lowered (is_small c) c (letter_least c h) (least 97 122 c))

folded_word : (s : List ℕ) → list_all (λ d. is_letter d || is_digit d) s ≡ true → is_word (folded s) ≡ true
folded_word s h =
    list_all-map (λ b. not (b == 32) && not (b == 10)) capital s
    ∙ list_all-from_AllPass (λ c. not (capital c == 32) && not (capital c == 10)) s
    (All-weaker (λ c. (is_letter c || is_digit c) ≡ true) (λ c. (not (capital c == 32) && not (capital c == 10)) ≡ true) capital_visible s (AllPass-from_list_all (λ d. is_letter d || is_digit d) s h))

or_first : (a b : Bool) → a ≡ true → a || b ≡ true
or_first true b h = refl
or_first false b h = absurd (cc h)

name_short : (s : List ℕ) → is_name s ≡ true → IsShortWord (folded s)
name_short [] h = absurd (cc h)
name_short (c ∷ cs) h =
    let first = and_left (is_letter c) (nat_le (length cs) 7 && list_all (λ d. is_letter d || is_digit d) cs) h in
    let rest = and_right (is_letter c) (nat_le (length cs) 7 && list_all (λ d. is_letter d || is_digit d) cs) h in
    let few : length cs ≤ 7 = leb-true (length cs) 7 (and_left (nat_le (length cs) 7) (list_all (λ d. is_letter d || is_digit d) cs) rest) in
    let others = and_right (nat_le (length cs) 7) (list_all (λ d. is_letter d || is_digit d) cs) rest in
    let all : list_all (λ d. is_letter d || is_digit d) (c ∷ cs) ≡ true =
    ap (λ (b : Bool). b && list_all (λ d. is_letter d || is_digit d) cs) (or_first (is_letter c) (is_digit c) first) ∙ others in
    let long : length (folded (c ∷ cs)) ≡ length (c ∷ cs) = length-map (c ∷ cs) capital in
    record { whole = folded_word (c ∷ cs) all; short = omega (arith, few, long) }

-- ---- names on cards

-- a short word, where there is one
abbrev MaybeShort : Option (List ℕ) → Type 0
MaybeShort None = ⊤
MaybeShort (Some name) = IsShortWord name

name_of_short : (s : List ℕ) → MaybeShort (name_of s)
name_of_short s = go (is_name s) (name_short s)
  where
    go : (b : Bool) → (b ≡ true → IsShortWord (folded s)) → MaybeShort (if b then Some (folded s) else None)
    go true h = h refl
    go false h = tt

abbrev CardShort : Option JobCard → Type 0
CardShort None = ⊤
CardShort (Some card) = IsShortWord card.name × IsShortWord card.account

with_short : (name account : Option (List ℕ)) (settings : Option Settings) → MaybeShort name → MaybeShort account → CardShort (job_with name account settings)
with_short None account settings h k = tt
with_short (Some name) None settings h k = tt
with_short (Some name) (Some account) None h k = tt
with_short (Some name) (Some account) (Some settings) h k = (h, k)

fields_short : (fs : List (List ℕ)) → CardShort (job_of_fields fs)
fields_short [] = tt
fields_short (name ∷ []) = tt
fields_short (name ∷ account ∷ settings) =
    with_short (name_of (stripped name)) (name_of (stripped account)) (settings_of settings) (name_of_short (stripped name)) (name_of_short (stripped account))

card_short : (card : List ℕ) → CardShort (job_card card)
card_short card = go (is_head card) (fields_short (fields (drop 4 card)))
  where
    go : (b : Bool) → CardShort (job_of_fields (fields (drop 4 card))) → CardShort (if b then job_of_fields (fields (drop 4 card)) else None)
    go true h = h
    go false h = tt

-- ---- jobs

unread_named : (number count : ℕ) (flaw : Flaw) → IsNamed (unread number count flaw)
unread_named number count flaw = record { name = record { whole = refl; short = omega arith }; account_name = record { whole = refl; short = omega arith } }

flawed_named : (number count : ℕ) (card : JobCard) (account : Option ℕ) (settings : Settings) (flaw : Flaw) → IsShortWord card.name × IsShortWord card.account → IsNamed (flawed number count card account settings flaw)
flawed_named number count card account settings flaw h = record { name = h.0; account_name = h.1 }

module _ (number count : ℕ) (library : Result (Option LibraryView) Flaw) (deck rest : List (List ℕ)) where
  named_on : (card : JobCard) (account : Option ℕ) (l : Result (Option LibraryView) Flaw) → IsShortWord card.name × IsShortWord card.account → IsNamed (job_on number count card account l deck rest)
  named_on card None l h = flawed_named number count card None card.settings flaws.AccountUnknown h
  named_on card (Some account) (Err flaw) h = flawed_named number count card (Some account) card.settings flaw h
  named_on card (Some account) (Ok library) h = record { name = h.0; account_name = h.1 }

  named_by : (card : Option JobCard) (account : Option ℕ) → CardShort card → IsNamed (job_by number count card account library deck rest)
  named_by None account h = unread_named number count flaws.JobCard
  named_by (Some card) account h = go (is_in_range card.settings) (nat_lt 2000 count)
    where
      go : (a b : Bool)
          → IsNamed (if a then (if b then flawed number count card account card.settings flaws.TooManyCards else job_on number count card account library deck rest) else flawed number count card account unset flaws.NumberOutOfRange)
      go true true = flawed_named number count card account card.settings flaws.TooManyCards h
      go true false = named_on card account library h
      go false b = flawed_named number count card account unset flaws.NumberOutOfRange h

  named_from : (long foul : Bool) (card : Option JobCard) (account : Option ℕ) → CardShort card → IsNamed (job_from number count long foul card account library deck rest)
  named_from true foul card account h = unread_named number count flaws.CardTooLong
  named_from false true card account h = unread_named number count flaws.ByteNotAllowed
  named_from false false card account h = named_by card account h

are_named : (front : Front) (number : ℕ) (rs : List Run) → All IsNamed (jobs_of front number rs)
are_named front number [] = All-nil IsNamed
are_named front number (run ∷ rs) =
    All-cons IsNamed (job_of front number run.head (body run)) (jobs_of front (number + 1) rs)
    (named_from number (length (body run) + 1) (library_for front.shelf (job_card run.head)) (before_first is_data (body run)) (after_first is_data (body run))
    (list_any is_long (run.head ∷ body run)) (list_any is_foul (run.head ∷ body run)) (job_card run.head) (account_for front.accounts (job_card run.head)) (card_short run.head))
    (are_named front (number + 1) rs)

pub jobs_are_named : JobsAreNamed
jobs_are_named accounts bytes = are_named (front_of (Some accounts) (cards bytes)) 1 (runs (cards bytes))

-- What a night's plan says has room in it.
use Rattle.std.proofs.Common.{◌≡◌, ℕ, ◌+◌, ◌<◌, ◌≤◌, ◌^◌, ◌%◌, ◌==◌, ◌&&◌, ◌||◌, not, nat_le, Bool, true, List, [], ◌∷◌, ◌++◌, All, length, map, Option, Some, None, refl, ap, subst, ◌∙◌, arith}
use Rattle.std.specs.List.{list_all}
use Rattle.std.proofs.lemmas.Bool.{leb-true}
use Rattle.std.proofs.lemmas.Bool.Decides.{nat_tests}
use Rattle.std.proofs.lemmas.List.Elements.{All-cons, All-head, All-nil, All-tail}
use Rattle.deck_reader.specs.declared.batch.Account.{Account}
use Rattle.deck_reader.specs.declared.batch.Flaw.{Flaw}
use Rattle.deck_reader.specs.Forms.{is_digit}
use Rattle.deck_reader.specs.JobView.{JobView}
use Rattle.accounts_text.specs.Text.{is_account, is_account_name, is_capital}
use Rattle.listing_forms.specs.Laws.{NameHolds}
use Rattle.printed_lines.proofs.Texts.{is_printable, text_of}
use Rattle.night_forms.specs.Joining.{IsNamed}
use Rattle.night_forms.proofs.Named.{jobs_are_named}
use Rattle.night_listings.specs.Nights.{jobs_of_windows}
use Rattle.night_merge.specs.declared.plan.Entry.{Entry}
use Rattle.night_merge.specs.Plan.{AreListed, AreOpened, IsWord, is_word}
use Rattle.whole_nights.specs.Plans.{AreAllListed, entries_by, entries_of}
use Rattle.whole_nights.specs.Joining.{PlansAreSaid}
use Rattle.whole_nights.proofs.SameJoins.{and_left, and_right}

-- ---- names of accounts

seen_capital : (c : ℕ) → is_capital c ≡ true → (not (c == 32) && not (c == 10)) ≡ true
seen_capital c h = grind (arith, nat_tests)

seen_byte : (c : ℕ) → (is_capital c || is_digit c) ≡ true → (not (c == 32) && not (c == 10)) ≡ true
seen_byte c h = grind (arith, nat_tests)

shown_capital : (c : ℕ) → is_capital c ≡ true → is_printable c ≡ true
shown_capital c h = grind (arith, nat_tests)

shown_byte : (c : ℕ) → (is_capital c || is_digit c) ≡ true → is_printable c ≡ true
shown_byte c h = grind (arith, nat_tests)

-- what holds of each byte of such a name
each_byte : (p : ℕ → Bool) → ((c : ℕ) → (is_capital c || is_digit c) ≡ true → p c ≡ true) → (cs : List ℕ) → list_all (λ d. is_capital d || is_digit d) cs ≡ true → list_all p cs ≡ true
each_byte p step [] h = refl
each_byte p step (c ∷ cs) h =
    ap (λ (v : Bool). v && list_all p cs) (step c (and_left (is_capital c || is_digit c) (list_all (λ d. is_capital d || is_digit d) cs) h))
    ∙ each_byte p step cs (and_right (is_capital c || is_digit c) (list_all (λ d. is_capital d || is_digit d) cs) h)

of_name : (p : ℕ → Bool) → ((c : ℕ) → is_capital c ≡ true → p c ≡ true) → ((c : ℕ) → (is_capital c || is_digit c) ≡ true → p c ≡ true) → (name : List ℕ) → is_account_name name ≡ true → list_all p name ≡ true
of_name p first step [] h = cc
of_name p first step (c ∷ cs) h =
    let rest = and_right (is_capital c) (nat_le (length cs) 7 && list_all (λ d. is_capital d || is_digit d) cs) h in
    ap (λ (v : Bool). v && list_all p cs) (first c (and_left (is_capital c) (nat_le (length cs) 7 && list_all (λ d. is_capital d || is_digit d) cs) h))
    ∙ each_byte p step cs (and_right (nat_le (length cs) 7) (list_all (λ d. is_capital d || is_digit d) cs) rest)

name_short : (name : List ℕ) → is_account_name name ≡ true → length name ≤ 80
name_short [] h = cc
name_short (c ∷ cs) h =
    let rest = and_right (is_capital c) (nat_le (length cs) 7 && list_all (λ d. is_capital d || is_digit d) cs) h in
    let few : length cs ≤ 7 = leb-true (length cs) 7 (and_left (nat_le (length cs) 7) (list_all (λ d. is_capital d || is_digit d) cs) rest) in
    omega (arith, few)

opened : (accounts : List Account) → list_all is_account accounts ≡ true → AreOpened accounts
opened [] h = tt
opened (a ∷ accounts) h =
    let this = and_left (is_account a) (list_all is_account accounts) h in
    let name = and_left (is_account_name a.name) (nat_le a.opening 999999999) this in
    let small : a.opening ≤ 999999999 = leb-true a.opening 999999999 (and_right (is_account_name a.name) (nat_le a.opening 999999999) this) in
    let word : IsWord a.name = record { whole = of_name (λ b. not (b == 32) && not (b == 10)) seen_capital seen_byte a.name name; short = name_short a.name name } in
    ((word, omega (arith, small)), opened accounts (and_right (is_account a) (list_all is_account accounts) h))

-- they are texts
pub names_hold : (accounts : List Account) → list_all is_account accounts ≡ true → All NameHolds accounts
names_hold [] h = All-nil NameHolds
names_hold (a ∷ accounts) h =
    let this = and_left (is_account a) (list_all is_account accounts) h in
    let name = and_left (is_account_name a.name) (nat_le a.opening 999999999) this in
    All-cons NameHolds a accounts (text_of a.name (of_name is_printable shown_capital shown_byte a.name name)) (names_hold accounts (and_right (is_account a) (list_all is_account accounts) h))

-- ---- jobs

one_listed : (chains : ℕ) (job : JobView) (flaw : Option Flaw) (account : Option ℕ) (rest : List Entry) → 0 < chains → chains < 2 ^ 32 → IsNamed job → AreListed rest → AreListed (entries_by chains job flaw account ++ rest)
one_listed chains job flaw (Some account) rest some few named listed = (below account, listed)
  where
    below : (n : ℕ) → n % chains + 1 < 2 ^ 32
    below n = omega (arith, some, few)
one_listed chains job (Some flaw) None rest some few named listed = ((word job.name named.name.whole named.name.short, word job.account_name named.account_name.whole named.account_name.short), listed)
  where
    word : (name : List ℕ) → is_word name ≡ true → length name ≤ 8 → IsWord name
    word name whole short = record { whole = whole; short = omega (arith, short) }
one_listed chains job None None rest some few named listed = listed

jobs_listed : (chains : ℕ) (jobs : List JobView) → 0 < chains → chains < 2 ^ 32 → All IsNamed jobs → AreListed (entries_of chains jobs)
jobs_listed chains [] some few named = tt
jobs_listed chains (job ∷ jobs) some few named =
    one_listed chains job job.flaw job.account (entries_of chains jobs) some few (All-head IsNamed job jobs named) (jobs_listed chains jobs some few (All-tail IsNamed job jobs named))

all_front : (P : JobView → Type 0) (xs ys : List JobView) → All P (xs ++ ys) → All P xs
all_front P [] ys h = All-nil P
all_front P (x ∷ xs) ys h = All-cons P x xs (All-head P x (xs ++ ys) h) (all_front P xs ys (All-tail P x (xs ++ ys) h))

all_behind : (P : JobView → Type 0) (xs ys : List JobView) → All P (xs ++ ys) → All P ys
all_behind P [] ys h = h
all_behind P (x ∷ xs) ys h = all_behind P xs ys (All-tail P x (xs ++ ys) h)

windows_listed : (chains : ℕ) (windows : List (List JobView)) → 0 < chains → chains < 2 ^ 32 → All IsNamed (jobs_of_windows windows) → AreAllListed (map (entries_of chains) windows)
windows_listed chains [] some few named = tt
windows_listed chains (window ∷ windows) some few named = (
  jobs_listed chains window some few (all_front IsNamed window (jobs_of_windows windows) named),
  windows_listed chains windows some few (all_behind IsNamed window (jobs_of_windows windows) named),
)

pub plans_are_said : PlansAreSaid
plans_are_said chains accounts bytes windows some few rules whole =
    (opened accounts rules.each, windows_listed chains windows some few (subst (All IsNamed) whole (jobs_are_named accounts bytes)))

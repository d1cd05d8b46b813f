-- What the closing lines of parts say, and how a night closes.
use Rattle.std.proofs.Common.{◌≡◌, ℕ, suc, ◌+◌, ◌-◌, ◌<◌, ◌≤◌, ◌==◌, ◌&&◌, not, Bool, true, false, cond, List, [], ◌∷◌, ◌++◌, length, map, filter, fold, reverse, codes, decimal, slice_index, refl, sym, ap, ◌∙◌, append-nil, arith, length-append}
use Rattle.std.specs.List.{list_all, prefix_len, suffix_len}
use Rattle.std.proofs.lemmas.Bool.Decides.{nat_tests}
use Rattle.std.proofs.lemmas.Grind.{reverse_onto}
use Rattle.std.proofs.lemmas.List.{drop_at, length-reverse, reverse-append}
use Rattle.std.proofs.lemmas.List.Elements.{All-weaker, filter-append}
use Rattle.std.proofs.lemmas.List.Sums.{list_all-from_AllPass}
use Rattle.deck_reader.specs.declared.batch.Account.{Account}
use Rattle.deck_reader.specs.JobView.{JobView}
use Rattle.account_book.specs.BookView.{openings_of}
use Rattle.account_book.specs.Places.{Claim, after, balances_behind, is_accepted, is_on, place_balance}
use Rattle.account_book.proofs.Tables.{table_holds}
use Rattle.algolw_meaning.specs.Charging.{charged}
use Rattle.account_shares.specs.Shares.{is_in, number_in, numbered_in, part_from}
use Rattle.account_shares.proofs.Nights.{balances_in_turn, closed_openings}
use Rattle.account_shares.proofs.Shares.{share_balances}
use Rattle.batch_listing.specs.Listing.{closed_accounts, sections}
use Rattle.batch_listing.specs.Texts.{closing, heading}
use Rattle.batch_listing.proofs.Closed.{closed_by_book, with_balance}
use Rattle.batch_listing.proofs.Sections.{lines_behind}
use Rattle.listing_parts.proofs.Tests.{all_append, and_left, and_right, front_passes}
use Rattle.printed_lines.specs.Texts.{IsPrintable, IsText}
use Rattle.printed_lines.proofs.Texts.{text_append, text_decimal, text_of}
use Rattle.section_forms.proofs.Numbers.{IsDigit, decimal_numeral}
use Rattle.night_listings.specs.Nights.{in_chain, night}
use Rattle.night_forms.specs.Joining.{behind_last_blank, closing_text, left_after}
use Rattle.night_forms.specs.Laws.{BalancesFall, ClosingsAreLines, ClosingsStateBalances, IdleChainsKeep, NightCloses}
use Rattle.night_forms.proofs.Joined.{jobs_are_counted}

-- ---- a closing line

no_feed : (c : ℕ) → IsPrintable c → not (c == 10) ≡ true
no_feed c h = grind (arith, nat_tests)

pub closings_are_lines : ClosingsAreLines
closings_are_lines account balance name =
    let text : IsText (closing_text account balance) =
    text_append (text_append (text_append (text_append (text_append (text_append name (text_of (codes " OPENING ") refl)) (text_decimal account.opening)) (text_of (codes " CHARGES ") refl)) (text_decimal (account.opening - balance))) (text_of (codes " CLOSING ") refl)) (text_decimal balance) in
    list_all-from_AllPass (λ b. not (b == 10)) (closing_text account balance) (All-weaker IsPrintable (λ c. not (c == 10) ≡ true) no_feed (closing_text account balance) text.each)

no_blank : (c : ℕ) → IsDigit c → not (c == 32) ≡ true
no_blank c h = grind (arith, nat_tests)

all_reverse : (p : ℕ → Bool) (xs : List ℕ) → list_all p xs ≡ true → list_all p (reverse xs) ≡ true
all_reverse p [] h = refl
all_reverse p (x ∷ xs) h =
    rw (reverse_onto xs x [])
    (all_append p (reverse xs) (x ∷ []) (all_reverse p xs (and_right (p x) (list_all p xs) h)) (rw (and_left (p x) (list_all p xs) h) refl))

-- behind the last blank of a text stands what stands behind a blank and has none
last_word : (front turned word : List ℕ) → reverse front ≡ 32 ∷ turned → list_all (λ b. not (b == 32)) word ≡ true → behind_last_blank (front ++ word) ≡ word
last_word front turned word ends all =
    let passes : ℕ → Bool = λ b. not (b == 32) in
    let back : reverse (front ++ word) ≡ reverse word ++ 32 ∷ turned = reverse-append front word ∙ ap (λ (xs : List ℕ). reverse word ++ xs) ends in
    let long : suffix_len (λ b. not (b == 32)) (front ++ word) ≡ length word =
    ap (prefix_len (λ b. not (b == 32))) back ∙ front_passes (λ b. not (b == 32)) (reverse word) 32 turned (all_reverse (λ b. not (b == 32)) word all) refl ∙ length-reverse word in
    let start : length front ≡ length (front ++ word) - suffix_len (λ b. not (b == 32)) (front ++ word) = omega (arith, long, length-append front word) in
    drop_at front word (length (front ++ word) - suffix_len (λ b. not (b == 32)) (front ++ word)) start

pub closings_state_balances : ClosingsStateBalances
closings_state_balances account balance =
    let before = account.name ++ codes " OPENING " ++ decimal account.opening ++ codes " CHARGES " ++ decimal (account.opening - balance) in
    let digits = list_all-from_AllPass (λ b. not (b == 32)) (decimal balance) (All-weaker IsDigit (λ c. not (c == 32) ≡ true) no_blank (decimal balance) (decimal_numeral balance).each) in
    last_word (before ++ codes " CLOSING ") (codes "GNISOLC " ++ reverse before) (decimal balance) (reverse-append before (codes " CLOSING ")) digits

-- ---- balances

left_le : (b : Bool) (balance charge : ℕ) → cond b (balance - charge) balance ≤ balance
left_le true balance charge = omega arith
left_le false balance charge = omega arith

fold_le : (account balance : ℕ) (claims : List (Claim × ℕ)) → fold (after account) balance claims ≤ balance
fold_le account balance [] = omega arith
fold_le account balance ((claim, charge) ∷ claims) =
    let next = after account balance (claim, charge) in
    let rest : fold (after account) next claims ≤ next = fold_le account next claims in
    let here : next ≤ balance = left_le (is_on account claim.account && is_accepted (λ _. balance) claim) balance charge in
    omega (arith, rest, here)

pub balances_fall : BalancesFall
balances_fall accounts earlier jobs account =
    let openings = openings_of accounts in
    let table = balances_behind openings (map charged earlier) in
    let turn : left_after accounts (earlier ++ jobs) account ≡ place_balance table (map charged jobs) account = balances_in_turn openings earlier jobs account in
    let holds : slice_index table account ≡ left_after accounts earlier account = table_holds openings (map charged earlier) account in
    let less : place_balance table (map charged jobs) account ≤ slice_index table account = fold_le account (slice_index table account) (map charged jobs) in
    omega (arith, turn, holds, less)

none_of : (jobs : List JobView) → length jobs ≡ 0 → jobs ≡ []
none_of [] long = refl
none_of (job ∷ jobs) long = absurd (omega (arith, long))

itself : (n : ℕ) → (n == n) ≡ true
itself n = grind (arith, nat_tests)

pub idle_chains_keep : IdleChainsKeep
idle_chains_keep chain accounts earlier jobs account idle =
    let own = in_chain chain (chain account) in
    let openings = openings_of accounts in
    let none : filter (is_in own) jobs ≡ [] = none_of (filter (is_in own) jobs) (jobs_are_counted chain (chain account) jobs ∙ idle) in
    let same : filter (is_in own) (earlier ++ jobs) ≡ filter (is_in own) earlier =
    filter-append (is_in own) earlier jobs ∙ ap (λ (js : List JobView). filter (is_in own) earlier ++ js) none ∙ append-nil (filter (is_in own) earlier) in
    sym (share_balances own openings (earlier ++ jobs) account (itself (chain account)))
    ∙ ap (λ (js : List JobView). place_balance (part_from own 0 openings) (map charged (numbered_in own 1 js)) (number_in own account)) same
    ∙ share_balances own openings earlier account (itself (chain account))

-- ---- the night

-- a table that has the balances of these accounts, the first of which has this number
is_table : (accounts : List Account) (left : List ℕ) (balance : ℕ → ℕ) (n : ℕ) → length left ≡ length accounts
    → ((k : ℕ) → k < length accounts → slice_index left k ≡ balance (n + k)) → left ≡ openings_of (with_balance balance n accounts)
is_table [] [] balance n long is = refl
is_table [] (x ∷ left) balance n long is = absurd (omega (arith, long))
is_table (a ∷ accounts) [] balance n long is = absurd (omega (arith, long))
is_table (a ∷ accounts) (x ∷ left) balance n long is =
    let first : n + 0 ≡ n = omega arith in
    let here : x ≡ balance n = is 0 (omega arith) ∙ ap balance first in
    let rest = is_table accounts left balance (n + 1) (omega (arith, long)) (λ k less. let past : n + suc k ≡ n + 1 + k = omega arith in is (suc k) (omega (arith, less)) ∙ ap balance past) in
    λ i. here i ∷ rest i

pub night_closes : NightCloses
night_closes accounts bytes left long is =
    let openings = openings_of accounts in
    let jobs = (night accounts bytes).jobs in
    let balance = left_after accounts jobs in
    let table : left ≡ openings_of (closed_accounts openings jobs accounts) =
    is_table accounts left balance 0 long (λ k less. let same : k ≡ 0 + k = omega arith in is k less ∙ ap balance same) in
    let behind : left ≡ balances_behind openings (map charged jobs) = table ∙ closed_openings accounts jobs in
    record {
      listing = ap (λ (lines : List ℕ). heading ++ sections openings jobs ++ closing lines (night accounts bytes).stray) (sym (lines_behind (record { accounts = accounts; balances = left }) jobs long behind));
      accounts_next = sym (closed_by_book (record { accounts = accounts; balances = left }) jobs long behind);
    }

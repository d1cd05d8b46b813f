-- Closing balances are such as a text may state.
use Rattle.std.proofs.Common.{◌≡◌, ℕ, suc, ◌+◌, ◌-◌, ◌≤◌, ◌&&◌, Bool, true, false, cond, nat_le, List, [], ◌∷◌, length, fold, map, slice_index, refl, sym, ap, subst, ◌∙◌, arith}
use Rattle.std.specs.List.{enumerate_from, list_all}
use Rattle.std.specs.List.Sorted.{IsStrictlySortedBy}
use Rattle.std.proofs.lemmas.Bool.Decides.{nat_tests}
use Rattle.short_text.specs.Order.{bytes_cmp}
use Rattle.deck_reader.specs.declared.batch.Account.{Account}
use Rattle.account_book.specs.BookView.{openings_of}
use Rattle.account_book.specs.Places.{Claim, after, is_accepted, is_on, place_balance}
use Rattle.accounts_text.specs.Text.{is_account, is_account_name}
use Rattle.algolw_meaning.specs.Charging.{charged}
use Rattle.batch_monitor.specs.Closing.{ClosedAreAccounts}

-- ---- balances fall

left_le : (b : Bool) (balance charge : ℕ) → cond b (balance - charge) balance ≤ balance
left_le true balance charge = omega arith
left_le false balance charge = omega arith

fold_le : (account balance : ℕ) (claims : List (Claim × ℕ)) → fold (after account) balance claims ≤ balance
fold_le account balance [] = omega arith
fold_le account balance ((claim, charge) ∷ claims) =
    let next = after account balance (claim, charge) in
    let rest : fold (after account) next claims ≤ next = fold_le account next claims in
    let here : next ≤ balance = left_le (is_on account claim.account && is_accepted (λ _. balance) claim) balance charge in
    omega (arith, rest, here)

-- ---- accounts with other balances

-- the accounts, the first of them with this number, with the balances that their numbers have
abbrev with_balances : (ℕ → ℕ) → ℕ → List Account → List Account
with_balances f n accounts = map (λ p. record { name = p.1.name; opening = f p.0 }) (enumerate_from n accounts)

as_many : (f : ℕ → ℕ) (n : ℕ) (accounts : List Account) → length (with_balances f n accounts) ≡ length accounts
as_many f n [] = refl
as_many f n (a ∷ accounts) = ap suc (as_many f (n + 1) accounts)

same_names : (f : ℕ → ℕ) (n : ℕ) (accounts : List Account) → map (λ a. a.name) (with_balances f n accounts) ≡ map (λ a. a.name) accounts
same_names f n [] = refl
same_names f n (a ∷ accounts) = ap (λ (names : List (List ℕ)). a.name ∷ names) (same_names f (n + 1) accounts)

both_of : (a b : Bool) → (a && b) ≡ true → (a ≡ true) × (b ≡ true)
both_of true true h = (refl, refl)
both_of true false h = cc
both_of false b h = cc

small : (most balance : ℕ) → nat_le most 999999999 ≡ true → balance ≤ most → nat_le balance 999999999 ≡ true
small most balance h less = grind (arith, nat_tests)

still : (a : Account) (balance : ℕ) → is_account a ≡ true → balance ≤ a.opening → is_account (record { name = a.name; opening = balance }) ≡ true
still a balance is less =
    let parts : (is_account_name a.name ≡ true) × (nat_le a.opening 999999999 ≡ true) = both_of (is_account_name a.name) (nat_le a.opening 999999999) is in
    ap (λ (b : Bool). b && nat_le balance 999999999) parts.0 ∙ small a.opening balance parts.1 less

each_still : (f : ℕ → ℕ) (n : ℕ) (accounts : List Account) → ((k : ℕ) → f (n + k) ≤ slice_index (openings_of accounts) k) → list_all is_account accounts ≡ true → list_all is_account (with_balances f n accounts) ≡ true
each_still f n [] less every = refl
each_still f n (a ∷ accounts) less every =
    let parts : (is_account a ≡ true) × (list_all is_account accounts ≡ true) = both_of (is_account a) (list_all is_account accounts) every in
    let first : n + 0 ≡ n = omega arith in
    let here : f n ≤ a.opening = subst (λ (m : ℕ). f m ≤ a.opening) first (less 0) in
    ap (λ (b : Bool). b && list_all is_account (with_balances f (n + 1) accounts)) (still a (f n) parts.0 here)
    ∙ each_still f (n + 1) accounts
    (λ k. let past : n + suc k ≡ n + 1 + k = omega arith in subst (λ (m : ℕ). f m ≤ slice_index (openings_of accounts) k) past (less (suc k)))
    parts.1

pub closed_are_accounts : ClosedAreAccounts
closed_are_accounts accounts jobs are =
    let balance : ℕ → ℕ = place_balance (openings_of accounts) (map charged jobs) in
    let many : length (with_balances balance 0 accounts) ≡ length accounts = as_many balance 0 accounts in
    let few : length accounts ≤ 500 = are.few in
    record {
      few = omega (arith, many, few);
      each = each_still balance 0 accounts
          (λ k. let first : k ≡ 0 + k = omega arith in subst (λ (m : ℕ). balance m ≤ slice_index (openings_of accounts) k) first (fold_le k (slice_index (openings_of accounts) k) (map charged jobs)))
          are.each;
      ascend = subst (IsStrictlySortedBy bytes_cmp) (sym (same_names balance 0 accounts)) are.ascend;
    }

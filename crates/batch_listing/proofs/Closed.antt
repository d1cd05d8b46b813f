-- The closing balances of a book, as accounts.
use Rattle.std.proofs.Common.{◌≡◌, ℕ, suc, ◌+◌, List, [], ◌∷◌, length, map, slice_index, refl, ap, ◌∙◌, arith, IfOk, Result}
use Rattle.std.proofs.lemmas.Result.{IfOk-weaker}
use Rattle.std.specs.List.{enumerate_from}
use Rattle.deck_reader.specs.declared.batch.Account.{Account}
use Rattle.deck_reader.specs.JobView.{JobView}
use Rattle.account_book.specs.BookView.{BookView, openings_of}
use Rattle.account_book.specs.Places.{place_balance}
use Rattle.account_book.proofs.Tables.{table_holds}
use Rattle.batch_listing.specs.Behind.{IsBehind, with_balances}
use Rattle.algolw_meaning.specs.Charging.{charged}
use Rattle.batch_listing.specs.Listing.{closed_accounts}

-- the accounts, the first of them with this number, with the balances that their numbers have
abbrev pub with_balance : (ℕ → ℕ) → ℕ → List Account → List Account
with_balance f n accounts = map (λ p. record { name = p.1.name; opening = f p.0 }) (enumerate_from n accounts)

with_from : (accounts : List Account) (balances : List ℕ) (f : ℕ → ℕ) (n : ℕ) → length balances ≡ length accounts → ((k : ℕ) → slice_index balances k ≡ f (n + k))
    → with_balances accounts balances ≡ with_balance f n accounts
with_from [] balances f n len is = refl
with_from (account ∷ accounts) [] f n len is = absurd (omega arith)
with_from (account ∷ accounts) (balance ∷ balances) f n len is =
    let first : n + 0 ≡ n = omega arith in
    let len' : length balances ≡ length accounts = omega arith in
    let here : balance ≡ f n = is 0 ∙ ap f first in
    let rest = with_from accounts balances f (n + 1) len' (λ k. let past : n + suc k ≡ n + 1 + k = omega arith in is (suc k) ∙ ap f past) in
    λ i. record { name = account.name; opening = here i } ∷ rest i

-- the balances by the table are those by the last place
pub closed_by_book : (book : BookView) (jobs : List JobView) → length book.balances ≡ length book.accounts → IsBehind book jobs
    → with_balances book.accounts book.balances ≡ closed_accounts (openings_of book.accounts) jobs book.accounts
closed_by_book book jobs len behind =
    let openings = openings_of book.accounts in
    with_from book.accounts book.balances (place_balance openings (map charged jobs)) 0 len
    (λ k. let same : k ≡ 0 + k = omega arith in
    ap (λ (bs : List ℕ). slice_index bs k) behind ∙ table_holds openings (map charged jobs) k ∙ ap (place_balance openings (map charged jobs)) same)

-- accounts with balances that are those of a book
pub as_in_book : (book : BookView) (accounts closed : List Account) (balances : List ℕ) → accounts ≡ book.accounts → balances ≡ book.balances
    → with_balances book.accounts book.balances ≡ closed → with_balances accounts balances ≡ closed
as_in_book book accounts closed balances same_accounts same_balances is =
    ap (λ (a : List Account). with_balances a balances) same_accounts ∙ ap (λ (b : List ℕ). with_balances book.accounts b) same_balances ∙ is

pub same_items : {V E : Type 0} (items : V → List Account) (r : Result V E) (one other : List Account) → IfOk r (λ v. items v ≡ one) → one ≡ other
    → IfOk r (λ v. items v ≡ other)
same_items items r one other h e = IfOk-weaker r (λ v. items v ≡ one) (λ v. items v ≡ other) (λ v is. is ∙ e) h

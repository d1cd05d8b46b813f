-- The accounts of a chain, from part to part.
use Rattle.std.proofs.Common.{◌≡◌, ℕ, suc, ◌+◌, ◌==◌, Bool, true, false, cond, List, [], ◌∷◌, ◌++◌, Option, Some, map, slice_get, refl, sym, ap, ◌∙◌, arith}
use Rattle.deck_reader.specs.declared.batch.Account.{Account}
use Rattle.account_book.specs.BookView.{openings_of}
use Rattle.account_book.specs.Places.{balances_behind, place_balance}
use Rattle.algolw_meaning.specs.Charging.{charged}
use Rattle.account_shares.specs.Shares.{jobs_in, number_in, part_from}
use Rattle.account_shares.proofs.Nights.{balances_in_turn, closed_openings}
use Rattle.account_shares.proofs.Shares.{next_other, next_own, openings_in, share_balances}
use Rattle.batch_listing.specs.Listing.{closed_accounts}
use Rattle.night_listings.specs.Nights.{in_chain}
use Rattle.night_shares.specs.Chains.{accounts_from}
use Rattle.night_shares.specs.Plan.{chain_of}
use Rattle.whole_nights.specs.Parts.{ChainsGoOn, ChainsOpen}
use Rattle.whole_nights.proofs.Documents.{opens_with, with_left}

-- ---- first

stays_from : (left : ℕ → ℕ) (number : ℕ) (accounts : List Account) → ((k : ℕ) (a : Account) → slice_get accounts k ≡ Some a → left (number + k) ≡ a.opening) → with_left left number accounts ≡ accounts
stays_from left number [] same = refl
stays_from left number (a ∷ accounts) same =
    let at : number + 0 ≡ number = omega arith in
    let first : left number ≡ a.opening = sym (ap left at) ∙ same 0 a refl in
    let rest = stays_from left (number + 1) accounts (λ k b there. (let next : number + 1 + k ≡ number + suc k = omega arith in ap left next ∙ same (suc k) b there)) in
    λ i. record { name = a.name; opening = first i } ∷ rest i

chain_from : (chains chain number : ℕ) (accounts : List Account) → part_from (in_chain (chain_of chains) chain) number accounts ≡ accounts_from chains chain number accounts
chain_from chains chain number [] = refl
chain_from chains chain number (a ∷ accounts) =
    let rest = chain_from chains chain (number + 1) accounts in
    λ i. cond (chain_of chains number == chain) (a ∷ rest i) (rest i)

pub chains_open : ChainsOpen
chains_open chains chain accounts =
    let unchanged : closed_accounts (openings_of accounts) [] accounts ≡ accounts =
    stays_from (place_balance (openings_of accounts) []) 0 accounts
    (λ k a at. (let plain : 0 + k ≡ k = omega arith in ap (place_balance (openings_of accounts) []) plain ∙ opens_with accounts k a at)) in
    ap (part_from (in_chain (chain_of chains) chain) 0) unchanged ∙ chain_from chains chain 0 accounts

-- ---- and then

module _ (own : Option ℕ → Bool) (before balance left : ℕ → ℕ) (same : (n : ℕ) → own (Some n) ≡ true → balance (number_in own n) ≡ left n) where
  goes_by : (b : Bool) (number : ℕ) (a : Account) (accounts : List Account) → own (Some number) ≡ b
      → with_left balance (number_in own (number + 1)) (part_from own (number + 1) (with_left before (number + 1) accounts)) ≡ part_from own (number + 1) (with_left left (number + 1) accounts)
      → with_left balance (number_in own number)
      (cond b (record { name = a.name; opening = before number } ∷ part_from own (number + 1) (with_left before (number + 1) accounts)) (part_from own (number + 1) (with_left before (number + 1) accounts)))
      ≡ cond b (record { name = a.name; opening = left number } ∷ part_from own (number + 1) (with_left left (number + 1) accounts)) (part_from own (number + 1) (with_left left (number + 1) accounts))
  goes_by true number a accounts is rest =
      let here = same number is in
      let behind = ap (λ (m : ℕ). with_left balance m (part_from own (number + 1) (with_left before (number + 1) accounts))) (sym (next_own own number is)) ∙ rest in
      λ i. record { name = a.name; opening = here i } ∷ behind i
  goes_by false number a accounts is rest =
      ap (λ (m : ℕ). with_left balance m (part_from own (number + 1) (with_left before (number + 1) accounts))) (sym (next_other own number is)) ∙ rest

  goes_on : (number : ℕ) (accounts : List Account) → with_left balance (number_in own number) (part_from own number (with_left before number accounts)) ≡ part_from own number (with_left left number accounts)
  goes_on number [] = refl
  goes_on number (a ∷ accounts) = goes_by (own (Some number)) number a accounts refl (goes_on (number + 1) accounts)

pub chains_go_on : ChainsGoOn
chains_go_on chains chain accounts earlier jobs =
    let own = in_chain (chain_of chains) chain in
    let openings = openings_of accounts in
    let table = balances_behind openings (map charged earlier) in
    let then = part_from own 0 (closed_accounts openings earlier accounts) in
    let opens : openings_of then ≡ part_from own 0 table = openings_in own (closed_accounts openings earlier accounts) 0 ∙ ap (part_from own 0) (closed_openings accounts earlier) in
    let same : (n : ℕ) → own (Some n) ≡ true → place_balance (openings_of then) (map charged (jobs_in own jobs)) (number_in own n) ≡ place_balance openings (map charged (earlier ++ jobs)) n =
    λ n mine. ap (λ (xs : List ℕ). place_balance xs (map charged (jobs_in own jobs)) (number_in own n)) opens ∙ share_balances own table jobs n mine ∙ sym (balances_in_turn openings earlier jobs n) in
    goes_on own (place_balance openings (map charged earlier)) (place_balance (openings_of then) (map charged (jobs_in own jobs))) (place_balance openings (map charged (earlier ++ jobs))) same 0 accounts

-- A table of balances holds the balance at each place.
use Rattle.std.proofs.Common.{◌≡◌, ◌≢◌, ℕ, ◌-◌, ◌==◌, ◌&&◌, Bool, true, false, cond, nat_le, List, [], ◌∷◌, Option, Some, None, length, get_or, fold, slice_index, slice_set, refl, ap, ◌∙◌, arith, inl, inr}
use Rattle.std.proofs.lemmas.Bool.Decides.{nat_tests}
use Rattle.std.proofs.lemmas.Bool.{cases_lt}
use Rattle.std.proofs.lemmas.List.{get_or-set_same, get_or-set_other, set_past, get_or_past}
use Rattle.account_book.specs.Places.{Claim, after, lowered, settled, place_balance, balances_behind}

-- the balance that is lowered; one of no account is 0 and stays so
lowered_same : (balances : List ℕ) (account charge : ℕ) → slice_index (lowered balances (Some account) charge) account ≡ slice_index balances account - charge
lowered_same balances account charge = elim (cases_lt account (length balances)) [
  | inl h ↦ get_or-set_same balances account (get_or balances account 0 - charge) 0 h
  | inr h ↦
      let none : get_or balances account 0 ≡ 0 = get_or_past balances account 0 h in
      let still : get_or balances account 0 ≡ get_or balances account 0 - charge = omega (arith, none) in
      ap (λ (xs : List ℕ). get_or xs account 0) (set_past balances account (get_or balances account 0 - charge) h) ∙ still
]

-- an account's balance when another or itself has paid, where the reserve was covered
paid : (same covered covered' : Bool) (payer account charge : ℕ) (balances : List ℕ) → (same ≡ true → payer ≡ account) → (same ≡ false → account ≢ payer) → (same ≡ true → covered ≡ covered')
    → slice_index (cond covered (lowered balances (Some payer) charge) balances) account
    ≡ cond (same && covered') (slice_index balances account - charge) (slice_index balances account)
paid true true true payer account charge balances is other alike =
    ap (λ (n : ℕ). slice_index (slice_set balances n (slice_index balances n - charge)) account) (is refl) ∙ lowered_same balances account charge
paid true false false payer account charge balances is other alike = refl
paid true true false payer account charge balances is other alike = let e : true ≡ false = alike refl in cc
paid true false true payer account charge balances is other alike = let e : false ≡ true = alike refl in cc
paid false true covered' payer account charge balances is other alike = get_or-set_other balances payer account (get_or balances payer 0 - charge) 0 (other refl)
paid false false covered' payer account charge balances is other alike = refl

-- one claim lowers the table as it lowers each balance
settled_at : (payer : Option ℕ) (reserve charge : ℕ) (balances : List ℕ) (account : ℕ)
    → slice_index (settled balances (record { account = payer; reserve = reserve }, charge)) account
    ≡ after account (slice_index balances account) (record { account = payer; reserve = reserve }, charge)
settled_at None reserve charge balances account = refl
settled_at (Some payer) reserve charge balances account =
    let is : (payer == account) ≡ true → payer ≡ account = λ e. grind (arith, nat_tests) in
    paid (payer == account) (nat_le reserve (slice_index balances payer)) (nat_le reserve (slice_index balances account)) payer account charge balances
    is (λ e same. grind (arith, nat_tests)) (λ e. ap (λ (n : ℕ). nat_le reserve (slice_index balances n)) (is e))

pub table_holds : (openings : List ℕ) (claims : List (Claim × ℕ)) (account : ℕ) → slice_index (balances_behind openings claims) account ≡ place_balance openings claims account
table_holds balances [] account = refl
table_holds balances ((claim, charge) ∷ claims) account =
    table_holds (settled balances (claim, charge)) claims account
    ∙ ap (λ (balance : ℕ). fold (after account) balance claims) (settled_at claim.account claim.reserve charge balances account)
